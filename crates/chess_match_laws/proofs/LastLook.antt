-- After the silence that ends a match no line is left over: all lines in the bytes that were read from its engine were
-- read in the match. That silence is the last look for a line of its side (`last_found`), and when a look finds none,
-- all lines that came were read (`all_if_silent`).
use Rattle.std.proofs.Common.{◌≡◌, ℕ, Bool, true, List, [], ◌∷◌, ◌++◌, refl, ap, ◌∙◌, Option, None, Some}
use Rattle.std.specs.List.{flat_map, last_or}
use Rattle.chess_base.specs.{declared.man.Colour.Colour, Men.same_colour, Options.list_if}
use Rattle.chess_base.proofs.shared.Men.{same_colour-self}
use Rattle.chess_match.specs.Acts.{Act, Sends, SendFails, Happens}
use Rattle.chess_match.specs.{ByDevice.look, Events.Silent}
use Rattle.chess_match_laws.specs.OfActs.{SilencesLeaveNoLine, only_sends}

-- a block is no look
no_look : (S : Colour) (H : List Act) → only_sends H ≡ true → flat_map (look S) H ≡ []
no_look S [] h = refl
no_look S (Sends b ∷ H) h = no_look S H h
no_look S (SendFails b ∷ H) h = no_look S H h
no_look S (Happens e ∷ H) h = absurd cc

-- the last of some values and then more
last_more : (last : Option Bool) (found more : List Bool)
    → last_or last (found ++ more) ≡ last_or (last_or last found) more
last_more last [] more = refl
last_more last (x ∷ found) more = last_more (Some x) found more

-- a silence after which only blocks are sent is the last look
last_found : (S : Colour) (moment : ℕ) (before after : List Act) (last : Option Bool) → only_sends after ≡ true
    → last_or last (flat_map (look S) (before ++ Happens (Silent S moment) ∷ after)) ≡ Some true
last_found S moment [] after last sends =
    ap (λ (l : List Bool). last_or last (list_if (same_colour S S) (true ∷ []) ++ l)) (no_look S after sends)
    ∙ ap (λ (own : Bool). last_or last (list_if own (true ∷ []) ++ [])) (same_colour-self S)
last_found S moment (a ∷ before) after last sends =
    last_more last (look S a) (flat_map (look S) (before ++ Happens (Silent S moment) ∷ after))
    ∙ last_found S moment before after (last_or last (look S a)) sends

pub silences_leave_no_line : SilencesLeaveNoLine
silences_leave_no_line before after S moment reason setup end w w' (final, p, reported, game) sends = (
  (p.passed S).0,
  (p.passed S).2,
  (p.passed S).4.0.all_if_silent (last_found S moment before after None sends),
)
