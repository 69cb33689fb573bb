-- In the steps of a match (`watched`) each line that is read, and each silence, is followed by reading the clock and by
-- the note of it (`in_order`, by induction over the acts); and when an event is read no block is due (`none_due`).
use Rattle.std.proofs.Common.{◌≡◌, ℕ, Bool, true, false, List, [], ◌∷◌, ◌++◌, refl, Option, None, Some, if◌then◌else◌}
use Rattle.chess_base.specs.{Options.list_if, declared.man.Colour.Colour}
use Rattle.chess_match.specs.Acts.{Act, Sends, SendFails, Happens, is_over}
use Rattle.chess_match.specs.{Effects.Match, Effects.effect, Notes.Note, Notes.Happened, Reasons.is_write_fault_of, Rules.Rules, declared.reason.Reason.Reason}
use Rattle.chess_match.specs.Events.{Event, Line, Opened, Silent, OutputEnds, FailsToRead, FailsToWrite}
use Rattle.chess_match.specs.Table.{Step, Does, LooksFor, ReadsLine, FindsNoLine, ReadsClock, Notes, watched}
use Rattle.chess_match_laws.specs.OfActs.{LinesAreReadInOrder, NothingIsDueAtEvents, SilencesAreReadInOrder}

-- the step that says what a look for a line of this side found: a line (`Some`), or none yet
abbrev looks : Colour → Option (Option (List ℕ)) → Step
looks S (Some text) = ReadsLine S text
looks S None = FindsNoLine S

-- the event that this is, at this moment
abbrev looked : Colour → Option (Option (List ℕ)) → ℕ → Event
looked S (Some text) moment = Line S text moment
looked S None moment = Silent S moment

-- the steps `after` begin with reading the clock for this side and noting what the look found
abbrev Followed : Colour → Option (Option (List ℕ)) → List Step → Type 0
Followed S found after =
    (moment : ℕ) × (rest : List Step) × (after ≡ ReadsClock S moment ∷ Notes (Happened (looked S found moment)) ∷ rest)

-- after each look among these steps it is so (`Followed`)
abbrev InOrder : List Step → Type 0
InOrder K = (before after : List Step) (S : Colour) (found : Option (Option (List ℕ)))
    → K ≡ before ++ looks S found ∷ after → Followed S found after

none : InOrder []
none [] after S found e = cc
none (s ∷ before) after S found e = cc

-- steps in order stay so with a note in front, as also (in the next lemmas) with an act, a reading of the clock or the
-- beginning of a look in front, and with a line or a silence whose clock and note follow it
after_note : (n : Note) (K : List Step) → InOrder K → InOrder (Notes n ∷ K)
after_note n K p [] after S (Some text) e = cc
after_note n K p [] after S None e = cc
after_note n K p (s ∷ before) after S found e = p before after S found cc

after_act : (a : Act) (K : List Step) → InOrder K → InOrder (Does a ∷ K)
after_act a K p [] after S (Some text) e = cc
after_act a K p [] after S None e = cc
after_act a K p (s ∷ before) after S found e = p before after S found cc

after_clock : (c : Colour) (n : ℕ) (K : List Step) → InOrder K → InOrder (ReadsClock c n ∷ K)
after_clock c n K p [] after S (Some text) e = cc
after_clock c n K p [] after S None e = cc
after_clock c n K p (s ∷ before) after S found e = p before after S found cc

after_look : (c : Colour) (until : Option ℕ) (K : List Step) → InOrder K → InOrder (LooksFor c until ∷ K)
after_look c until K p [] after S (Some text) e = cc
after_look c until K p [] after S None e = cc
after_look c until K p (s ∷ before) after S found e = p before after S found cc

after_line : (c : Colour) (t : Option (List ℕ)) (n : ℕ) (K : List Step) → InOrder K
    → InOrder (ReadsLine c t ∷ ReadsClock c n ∷ Notes (Happened (Line c t n)) ∷ K)
after_line c t n K p [] after S (Some text) e = (n, K, cc)
after_line c t n K p [] after S None e = cc
after_line c t n K p (s ∷ before) after S found e =
    after_clock c n _ (after_note (Happened (Line c t n)) K p) before after S found cc

after_silence : (c : Colour) (n : ℕ) (K : List Step) → InOrder K
    → InOrder (FindsNoLine c ∷ ReadsClock c n ∷ Notes (Happened (Silent c n)) ∷ K)
after_silence c n K p [] after S (Some text) e = cc
after_silence c n K p [] after S None e = (n, K, cc)
after_silence c n K p (s ∷ before) after S found e =
    after_clock c n _ (after_note (Happened (Silent c n)) K p) before after S found cc

-- with the note of a failed write in front, if it is given
after_failure : (noted : Bool) (c : Colour) (K : List Step) → InOrder K
    → InOrder (list_if noted (Notes (Happened (FailsToWrite c)) ∷ []) ++ K)
after_failure true c K p = after_note (Happened (FailsToWrite c)) K p
after_failure false c K p = p

-- the steps of any acts are in order
in_order : (r : Rules) (reason : Reason) (m : Match) (H : List Act) → InOrder (watched r reason m H)
in_order r reason m [] = none
in_order r reason m (Sends b ∷ H) = after_note _ _ (after_act (Sends b) _ (in_order r reason m H))
in_order r reason m (SendFails b ∷ H) = after_note _ _ (after_act (SendFails b) _
    (after_failure (is_write_fault_of reason b.to) b.to _
    (in_order r reason (if is_over m.phase then m else (effect r m (FailsToWrite b.to)).after) H)))
in_order r reason m (Happens (Line c t n) ∷ H) =
    after_look c _ _ (after_line c t n _ (in_order r reason (effect r m (Line c t n)).after H))
in_order r reason m (Happens (Opened c n) ∷ H) =
    after_clock c n _ (after_note _ _ (in_order r reason (effect r m (Opened c n)).after H))
in_order r reason m (Happens (Silent c n) ∷ H) =
    after_look c _ _ (after_silence c n _ (in_order r reason (effect r m (Silent c n)).after H))
in_order r reason m (Happens (OutputEnds c) ∷ H) =
    after_look c _ _ (after_act _ _ (after_note _ _ (in_order r reason (effect r m (OutputEnds c)).after H)))
in_order r reason m (Happens (FailsToRead c) ∷ H) =
    after_look c _ _ (after_act _ _ (after_note _ _ (in_order r reason (effect r m (FailsToRead c)).after H)))
in_order r reason m (Happens (FailsToWrite c) ∷ H) =
    after_act _ _ (after_note _ _ (in_order r reason (effect r m (FailsToWrite c)).after H))

pub read_in_order : LinesAreReadInOrder
read_in_order r reason m H before after S text e = in_order r reason m H before after S (Some text) e

pub silent_in_order : SilencesAreReadInOrder
silent_in_order r reason m H before after S e = in_order r reason m H before after S None e

pub none_due : NothingIsDueAtEvents
none_due r m n [] e H g = refl
none_due r m n (b ∷ due) e H g = absurd g
