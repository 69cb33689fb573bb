-- The promotions of the result give exactly the legal moves between the squares. Where a pawn would promote, these are
-- the moves with all four promotions or none (promotions_between of Listed), as `promotes_legally` says; elsewhere the
-- move without a promotion or none (one_between), as `is_safe_after` says.
use Rattle.std.proofs.Common.{◌≡◌, true, false, sym, ◌∙◌, rules}
use Rattle.chess_moves.specs.Promoting.{would_promote}
use Rattle.chess_bits.proofs.Listed.{promotions_between, one_between, unpromoted}
use Rattle.chess_bits.proofs.bits.Bits.legal_promotions.Goals as goal

pub returns-then-promotes_legally : goal.returns-then-promotes_legally
returns-then-promotes_legally c =
    let promotes : would_promote c.args.self.now c.args.from c.args.to ≡ true = search rules in
    sym (rw c.if-promotes_legally.true at
    (promotions_between c.args.self.now c.args.from c.args.to c.promotes_legally.result promotes
    c.promotes_legally.ensures))

pub returns-else-promotes_legally : goal.returns-else-promotes_legally
returns-else-promotes_legally c =
    let promotes : would_promote c.args.self.now c.args.from c.args.to ≡ true = search rules in
    sym (rw c.if-promotes_legally.false at
    (promotions_between c.args.self.now c.args.from c.args.to c.promotes_legally.result promotes
    c.promotes_legally.ensures))

pub returns-then-is_safe_after : goal.returns-then-is_safe_after
returns-then-is_safe_after c =
    let stays : would_promote c.args.self.now c.args.from c.args.to ≡ false = search rules in
    let pattern = unpromoted c.args.self.now c.args.from c.args.to c.requires stays in
    sym (rw (sym (c.is_safe_after.ensures pattern) ∙ c.if-is_safe_after.true) at
    (one_between c.args.self.now c.args.from c.args.to stays))

pub returns-else-is_safe_after : goal.returns-else-is_safe_after
returns-else-is_safe_after c =
    let stays : would_promote c.args.self.now c.args.from c.args.to ≡ false = search rules in
    let pattern = unpromoted c.args.self.now c.args.from c.args.to c.requires stays in
    sym (rw (sym (c.is_safe_after.ensures pattern) ∙ c.if-is_safe_after.false) at
    (one_between c.args.self.now c.args.from c.args.to stays))
