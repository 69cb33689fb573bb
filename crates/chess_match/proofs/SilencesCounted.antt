-- An engine's count of silences grows by the number of looks for its line that found none in these acts
-- (`silences_counted`): each act adds one if it is such a look, and otherwise nothing (`one_act`); by induction over
-- the acts.
use Rattle.std.proofs.Common.{◌≡◌, ℕ, ◌+◌, Bool, true, false, cond, inl, inr, List, [], ◌∷◌, sym, ap, ◌∙◌, zero-add, MatchBool, count_by, ◌⊎◌}
use Rattle.std.specs.Io.KnownBytes.{Consumes}
use Rattle.std.proofs.lemmas.List.Sums.{sum_by-cons}
use Rattle.byte_devices.specs.Devices.{InputState, saturating_add}
use Rattle.byte_devices.proofs.{shared.Devices.add_one_more, shared.Transfers.saturating_increment_if}
use Rattle.chess_base.specs.{declared.man.Colour.Colour, Men.same_colour}
use Rattle.text_lines.specs.Lines.{Held, LineSeen}
use Rattle.text_lines.specs.Next.{GotLine, GotLast, GotNone, GotFault, GotSilence}
use Rattle.chess_match.specs.Acts.{Act, Sends, SendFails, Happens}
use Rattle.chess_match.specs.{ByDevice.is_silence_of, Run.text_read, declared.run.TheConstants.ENGINE_LINE_LEN, ties.AtDesk.ReadsOf, ties.EngineOutput.OutputAt}
use Rattle.chess_match.specs.Events.{Line, Opened, Silent, OutputEnds, FailsToRead, FailsToWrite}

-- an output that is left as it was has the same count of silences
kept : (r r' : InputState) → r' ≡ r → r'.silence_count ≡ r.silence_count
kept r r' e = ap (λ (x : InputState). x.silence_count) e

-- one act adds one to the count of silences of S, if it is one of S
one_act : (S : Colour) (a : Act) (r r' : InputState) (h h' : Held) → OutputAt S a r r' h h'
    → r'.silence_count ≡ saturating_increment_if (is_silence_of S a) r.silence_count
one_act S (Sends b) r r' h h' (e, f) = kept r r' e
one_act S (SendFails b) r r' h h' (e, f) = kept r r' e
one_act S (Happens (Opened c n)) r r' h h' (e, f) = kept r r' e
one_act S (Happens (FailsToWrite c)) r r' h h' (e, f) = kept r r' e
one_act S (Happens (Line c t n)) r r' h h' o = at (same_colour c S) o
  where
    at : (x : Bool) → MatchBool x ((more : List ℕ) × Consumes r.known_bytes r'.known_bytes more
        × (line : LineSeen) × GotLine ENGINE_LINE_LEN r r' h h' more line × (t ≡ text_read line))
        ((r' ≡ r) × (h' ≡ h)) → r'.silence_count ≡ r.silence_count
    at true (more, b, line, got, same) = got.silences
    at false (e, f) = kept r r' e
one_act S (Happens (Silent c n)) r r' h h' o = at (same_colour c S) o
  where
    at : (x : Bool) → MatchBool x ((more : List ℕ) × Consumes r.known_bytes r'.known_bytes more
        × GotSilence ENGINE_LINE_LEN r r' h h' more) ((r' ≡ r) × (h' ≡ h))
        → r'.silence_count ≡ saturating_increment_if x r.silence_count
    at true (more, b, got) = got.silences
    at false (e, f) = kept r r' e
one_act S (Happens (OutputEnds c)) r r' h h' o = at (same_colour c S) o
  where
    at : (x : Bool) → MatchBool x ((more : List ℕ) × Consumes r.known_bytes r'.known_bytes more
        × (((line : LineSeen) × GotLast ENGINE_LINE_LEN r r' h h' more line)
        ⊎ GotNone ENGINE_LINE_LEN r r' h h' more)) ((r' ≡ r) × (h' ≡ h)) → r'.silence_count ≡ r.silence_count
    at true (more, b, inl (line, got)) = got.silences
    at true (more, b, inr got) = got.silences
    at false (e, f) = kept r r' e
one_act S (Happens (FailsToRead c)) r r' h h' o = at (same_colour c S) o
  where
    at : (x : Bool) → MatchBool x ((more : List ℕ) × Consumes r.known_bytes r'.known_bytes more
        × GotFault ENGINE_LINE_LEN r r' h h' more) ((r' ≡ r) × (h' ≡ h)) → r'.silence_count ≡ r.silence_count
    at true (more, b, got) = got.silences
    at false (e, f) = kept r r' e

-- what one act adds, and then the others
one_first : (S : Colour) (a : Act) (H : List Act) (l m n : ℕ) → m ≡ saturating_increment_if (is_silence_of S a) l
    → n ≡ saturating_add m (count_by (is_silence_of S) H) → n ≡ saturating_add l (count_by (is_silence_of S) (a ∷ H))
one_first S a H l m n e f =
    at (is_silence_of S a) e ∙ ap (saturating_add l) (sym (sum_by-cons (λ x. cond (is_silence_of S x) 1 0) a H))
  where
    at : (b : Bool) → m ≡ saturating_increment_if b l
        → n ≡ saturating_add l (cond b 1 0 + count_by (is_silence_of S) H)
    at true e = f ∙ ap (λ c. saturating_add c (count_by (is_silence_of S) H)) e
        ∙ add_one_more l (count_by (is_silence_of S) H)
    at false e = f ∙ ap (λ c. saturating_add c (count_by (is_silence_of S) H)) e
        ∙ ap (saturating_add l) (sym (zero-add (count_by (is_silence_of S) H)))

-- the acts `H` add as many as they have silences of S (a count that is full stays)
pub silences_counted : (S : Colour) (H : List Act) (r r' : InputState) (h h' : Held) → ReadsOf S H r r' h h'
    → r'.silence_count ≡ saturating_add r.silence_count (count_by (is_silence_of S) H)
silences_counted S [] r r' h h' (e, f) = kept r r' e
silences_counted S (a ∷ H) r r' h h' (v, k, o, p) =
    one_first S a H r.silence_count v.silence_count r'.silence_count (one_act S a r v h k o)
    (silences_counted S H v r' k h' p)
