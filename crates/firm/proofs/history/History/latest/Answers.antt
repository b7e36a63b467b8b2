-- The mask is 2 ^ k - 1, since k is below the word's width.
use Rattle.std.proofs.Common.{◌≡◌, ◌*◌, ◌%◌, ◌^◌, arith}
use Rattle.std.proofs.lemmas.Nat.{and_mask, one_shl}
use Rattle.firm.proofs.history.History.latest.Goals as goal

pub returns : goal.returns
returns c =
    let whole : (1 * 2 ^ c.args.self.now.k) % 2 ^ 32 ≡ 2 ^ c.args.self.now.k = one_shl c.args.self.now.k 32 (omega arith) in
    simp whole (and_mask c.args.bits c.args.self.now.k)
