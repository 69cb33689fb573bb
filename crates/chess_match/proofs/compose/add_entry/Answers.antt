-- The bytes put are those of `phase_lines`. Of its cases the check needs a proof only for a handshake, where the side
-- that is awaited is sent `xboard` and `protover 2` (Sends.handshake_bytes). A side that has no lines in the phase is
-- put nothing (Sends.same_end, named at the function).
use Rattle.std.proofs.Common.{◌≡◌, ◌++◌, List, sym, ◌∙◌, ap, true, ℕ}
use Rattle.chess_base.specs.Men.{same_colour}
use Rattle.chess_match.proofs.Sends.{handshake_bytes}
use Rattle.chess_match.proofs.compose.add_entry.Goals as goal

pub returns-then-same_colour : goal.returns-then-same_colour
returns-then-same_colour g c r m p s =
    let same : same_colour c.in-Handshake.on c.args.side ≡ true = sym c.same_colour.ensures ∙ c.if-same_colour.true in
    rw (c.in-Handshake.is, same, c.append.ensures.text)
    (ap (λ (bs : List ℕ). c.args.block.now.items ++ bs) handshake_bytes)
