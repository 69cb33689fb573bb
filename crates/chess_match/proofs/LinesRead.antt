-- A call for the next line of one engine does to its output what the act of the read says (`OutputAt`), by cases of the
-- call's result: for `read_line` (`own_read`), and for `read_line_until` where no line had come in time (`own_silent`).
-- To the other engine's output it does nothing, as the act says too (`other_read`, `other_silent`).
use Rattle.std.proofs.Common.{◌≡◌, Bool, true, false, inl, inr, refl, sym, subst, Option, Some, None, Result, Ok, Err, if◌then◌else◌, MatchBool}
use Rattle.chess_base.specs.{declared.man.Colour.Colour, Men.other, Men.same_colour}
use Rattle.byte_devices.specs.Devices.{InputState}
use Rattle.chess_base.proofs.shared.Men.{same_colour-other, same_colour-self}
use Rattle.text_lines.specs.Lines.{LineSeen, Held}
use Rattle.text_lines.specs.Next.{NextLine, NextLineUntil, GotLine, GotLast}
use Rattle.chess_match.specs.{Acts.Act, Acts.Happens, Run.text_read, ties.EngineOutput.OutputAt, declared.run.TheConstants.ENGINE_LINE_LEN}
use Rattle.chess_match.specs.Events.{Line, Silent, OutputEnds, FailsToRead}

-- a test whether a side is S, for S itself: the first case holds
own : (S : Colour) (P Q : Type 0) → P → MatchBool (same_colour S S) P Q
own S P Q p = subst (λ (x : Bool). MatchBool x P Q) (sym (same_colour-self S)) p

-- a test whether a side is S, for the other side: the second case holds
others : (S : Colour) (P Q : Type 0) → Q → MatchBool (same_colour S (other S)) P Q
others S P Q q = subst (λ (x : Bool). MatchBool x P Q) (sym (same_colour-other S (other S) (same_colour-self (other S)))) q

-- the act of reading from the engine of the side `S`, with the moment 0 for a line
abbrev pub act_read : {E : Type 0} → Colour → Result (Option LineSeen) E → Act
act_read S (Ok (Some line)) = if line.ended then Happens (Line S (text_read line) 0) else Happens (OutputEnds S)
act_read S (Ok None) = Happens (OutputEnds S)
act_read S (Err e) = Happens (FailsToRead S)

-- what `read_line` did to the output of S is what the act of the read says
pub own_read : {E : Type 0} (S : Colour) (r r' : InputState) (h h' : Held) (result : Result (Option LineSeen) E)
    → NextLine ENGINE_LINE_LEN r r' h h' result → OutputAt S (act_read S result) r r' h h'
own_read S r r' h h' (Err x) (more, b, w, got) = own S _ _ (more, b, got)
own_read S r r' h h' (Ok None) (more, b, w, got) = own S _ _ (more, b, inr got)
own_read S r r' h h' (Ok (Some line)) (more, b, w, got) = by_whether line.ended refl got
  where
    by_whether : (x : Bool) → line.ended ≡ x
        → MatchBool x (GotLine ENGINE_LINE_LEN r r' h h' more line) (GotLast ENGINE_LINE_LEN r r' h h' more line)
        → OutputAt S (if line.ended then Happens (Line S (text_read line) 0) else Happens (OutputEnds S)) r r' h h'
    by_whether true e g =
        subst (λ (x : Bool). OutputAt S (if x then Happens (Line S (text_read line) 0) else Happens (OutputEnds S)) r r' h h') (sym e)
        (own S _ _ (more, b, line, g, refl))
    by_whether false e g =
        subst (λ (x : Bool). OutputAt S (if x then Happens (Line S (text_read line) 0) else Happens (OutputEnds S)) r r' h h') (sym e)
        (own S _ _ (more, b, inl (line, g)))

-- `read_line` for S left the output of the other engine as it was, which the act of the read says too
pub other_read : {E : Type 0} (S : Colour) (r r' : InputState) (h h' : Held) (result : Result (Option LineSeen) E)
    → r' ≡ r → h' ≡ h → OutputAt (other S) (act_read S result) r r' h h'
other_read S r r' h h' (Err x) same kept = others S _ _ (same, kept)
other_read S r r' h h' (Ok None) same kept = others S _ _ (same, kept)
other_read S r r' h h' (Ok (Some line)) same kept = at line.ended
  where
    at : (x : Bool) → OutputAt (other S) (if x then Happens (Line S (text_read line) 0) else Happens (OutputEnds S)) r r' h h'
    at true = others S _ _ (same, kept)
    at false = others S _ _ (same, kept)

-- what `read_line_until` did to the output of S when no line had come in time
pub own_silent : (E : Type 0) (S : Colour) (r r' : InputState) (h h' : Held) (line : LineSeen)
    → NextLineUntil {E = E} ENGINE_LINE_LEN r r' h h' (Ok None) line → OutputAt S (Happens (Silent S 0)) r r' h h'
own_silent E S r r' h h' line (more, b, w, got) = own S _ _ (more, b, got)

-- `read_line_until` for S left the output of the other engine as it was
pub other_silent : (S : Colour) (r r' : InputState) (h h' : Held) → r' ≡ r → h' ≡ h
    → OutputAt (other S) (Happens (Silent S 0)) r r' h h'
other_silent S r r' h h' same kept = others S _ _ (same, kept)
