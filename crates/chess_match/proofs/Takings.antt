-- A look for the next line of an engine has one of five results: a line, a last line without `\n` (which counts as the
-- end), the output's end, a silence or a failed read. For each, which steps passed at the table (`as_line` and so on).
-- Then a line leaves less to come (`line_falls`); after an end or a failed read there are no items, which gives all
-- that `take_next` ensures (`without_items`).
use Rattle.std.proofs.Common.{◌≡◌, ◌<◌, ℕ, Bool, true, false, List, [], ◌∷◌, ◌++◌, refl, ap, sym, ◌∙◌, subst, Option, None, Some, Result, Ok, Err, if◌then◌else◌, is_some}
use Rattle.chess_base.specs.{declared.man.Colour.Colour, declared.man.Move.Move, Men.other}
use Rattle.cecp_engine.specs.Items.{Item}
use Rattle.text_lines.specs.Lines.{LineSeen}
use Rattle.chess_match.specs.{Acts.Happens, Acts.awaits_line, Effects.Match, Effects.effect, Effects.answers_to, Events.Event, Events.OutputEnds, Events.FailsToRead, Lines.bytes_of, Rules.Rules, Run.text_read, declared.state.Actions.Actions, declared.state.MatchState.MatchState, ties.Represents.Goes, ties.Represents.Represents, ties.Represents.nothing_said}
use Rattle.chess_match.specs.Table.{Does, LooksFor, ReadsLine, FindsNoLine, Passing, Passes, reading_until}
use Rattle.chess_match.specs.ties.Driving.{is_line_event, is_of_output, is_silence, looks_of, steps_of}

-- what `take_next` ensures (its clause `taken`), if the event is an end or a failed read: it has no items, so nothing
-- is answered
pub without_items : (plays : Rules → Type 0) (old new : Passing) (core : MatchState) (played : List Move)
    (core' : MatchState) (given : Actions) (text : List ℕ) (S : Colour) (n n' : ℕ) (until : Option ℕ) (e : Event)
    → is_of_output S e ≡ true → is_line_event e ≡ false → is_silence e ≡ false → text ≡ []
    → Passes old new (looks_of until e ++ steps_of e)
    → ((r : Rules) (m : Match) → plays r → awaits_line m.phase S ≡ true → Represents r core played m
    → Goes r core' played given nothing_said (effect r m e))
    → (x : Event) × (items : Colour → List Item) × (is_of_output S x ≡ true)
    × Passes old new (looks_of until x ++ steps_of x)
    × (is_line_event x ≡ true → n' < n) × (is_silence x ≡ true → (n' < n) × (is_some until ≡ true))
    × (text ≡ bytes_of (answers_to (items S))) × (items (other S) ≡ [])
    × ((r : Rules) (m : Match) → plays r → awaits_line m.phase S ≡ true → Represents r core played m
    → Goes r core' played given items (effect r m x))
unfolding bytes_of
without_items plays old new core played core' given text S n n' until e is line silence empty passes goes = (
  e,
  nothing_said,
  is,
  passes,
  λ h. let no : false ≡ true = sym line ∙ h in absurd cc,
  λ h. let no : false ≡ true = sym silence ∙ h in absurd cc,
  empty,
  refl,
  goes,
)

-- ---- the step of a read

-- the step of a read whose result is `shown` and which waited until `until`
by_result : {E : Type 0} (old new : Passing) (S : Colour) (result shown : Result (Option Bool) E) (line : LineSeen)
    (u until : Option ℕ) → u ≡ until → result ≡ shown
    → Passes old new (LooksFor S u ∷ reading_until S result line ∷ [])
    → Passes old new (LooksFor S until ∷ reading_until S shown line ∷ [])
by_result old new S result shown line u until at e p =
    subst (λ v. Passes old new (LooksFor S until ∷ reading_until S v line ∷ [])) e
    (subst (λ (x : Option ℕ). Passes old new (LooksFor S x ∷ reading_until S result line ∷ [])) at p)

-- the step of a read that failed
pub as_fault : {E : Type 0} (old new : Passing) (S : Colour) (result : Result (Option Bool) E) (line : LineSeen) (x : E)
    (u until : Option ℕ) → u ≡ until → result ≡ Err x
    → Passes old new (LooksFor S u ∷ reading_until S result line ∷ [])
    → Passes old new (LooksFor S until ∷ Does (Happens (FailsToRead S)) ∷ [])
as_fault old new S result line x u until at e p = by_result old new S result (Err x) line u until at e p

-- the step of one that found no line in time
pub as_silence : {E : Type 0} (old new : Passing) (S : Colour) (result : Result (Option Bool) E) (line : LineSeen)
    (u until : Option ℕ) → u ≡ until → result ≡ Ok None
    → Passes old new (LooksFor S u ∷ reading_until S result line ∷ [])
    → Passes old new (LooksFor S until ∷ FindsNoLine S ∷ [])
as_silence old new S result line u until at e p = by_result old new S result (Ok None) line u until at e p

-- the step of one that found no line at the end of the output
pub as_none : {E : Type 0} (old new : Passing) (S : Colour) (result : Result (Option Bool) E) (line : LineSeen)
    (u until : Option ℕ) → u ≡ until → result ≡ Ok (Some false)
    → Passes old new (LooksFor S u ∷ reading_until S result line ∷ [])
    → Passes old new (LooksFor S until ∷ Does (Happens (OutputEnds S)) ∷ [])
as_none old new S result line u until at e p = by_result old new S result (Ok (Some false)) line u until at e p

-- the step of one that found a last line, without `\n`: it counts as the end
pub as_last : {E : Type 0} (old new : Passing) (S : Colour) (result : Result (Option Bool) E) (line : LineSeen)
    (u until : Option ℕ) → u ≡ until → result ≡ Ok (Some true) → line.ended ≡ false
    → Passes old new (LooksFor S u ∷ reading_until S result line ∷ [])
    → Passes old new (LooksFor S until ∷ Does (Happens (OutputEnds S)) ∷ [])
as_last old new S result line u until at e last p = subst (λ (b : Bool). Passes old new
    (LooksFor S until ∷ (if b then ReadsLine S (text_read line) else Does (Happens (OutputEnds S))) ∷ [])) last
    (by_result old new S result (Ok (Some true)) line u until at e p)

-- the step of one that found a line
pub as_line : {E : Type 0} (old new : Passing) (S : Colour) (result : Result (Option Bool) E) (line : LineSeen)
    (u until : Option ℕ) → u ≡ until → result ≡ Ok (Some true) → line.ended ≡ true
    → Passes old new (LooksFor S u ∷ reading_until S result line ∷ [])
    → Passes old new (LooksFor S until ∷ ReadsLine S (text_read line) ∷ [])
as_line old new S result line u until at e whole p = subst (λ (b : Bool). Passes old new
    (LooksFor S until ∷ (if b then ReadsLine S (text_read line) else Does (Happens (OutputEnds S))) ∷ [])) whole
    (by_result old new S result (Ok (Some true)) line u until at e p)

-- a line that was read leaves fewer to come
pub line_falls : {E : Type 0} (S : Colour) (result : Result (Option Bool) E) (line : LineSeen) (n n' : ℕ)
    → result ≡ Ok (Some true) → line.ended ≡ true
    → ((text : Option (List ℕ)) → reading_until S result line ≡ ReadsLine S text → n' < n) → n' < n
line_falls S result line n n' e whole falls = falls (text_read line)
    (ap (λ v. reading_until S v line) e
    ∙ ap (λ (b : Bool). if b then ReadsLine S (text_read line) else Does (Happens (OutputEnds S))) whole)
