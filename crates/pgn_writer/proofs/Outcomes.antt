-- For `outcome_of`, which calls `try_from` of Outcome: if `try_from` returns the outcome that is written as the word,
-- and an error for other words, then this is what the definition `outcome_of` finds (outcome_parsed). By cases of the
-- outcome.
use Rattle.std.proofs.Common.{◌≡◌, ℕ, Bool, true, false, List, refl, sym, subst, bytes_eq, Some, Result, Ok, Err}
use Rattle.std.proofs.lemmas.Slice.Eq.{bytes_eq-Decides}
use Rattle.std.specs.Result.{result_ok}
use Rattle.chess_game.specs.{Results.outcome_text, Results.ParsesOutcome, declared.results.Outcome.Outcome}
use Rattle.chess_game.specs.declared.results.Outcome.TheVariants.{WhiteWins, BlackWins, Draw, Unfinished}
use Rattle.pgn_writer.specs.Outcomes.{outcome_of}

-- the definition finds each outcome by its own text
outcome_found : (o : Outcome) → Some o ≡ outcome_of (outcome_text o)
outcome_found WhiteWins = refl
outcome_found BlackWins = refl
outcome_found Draw = refl
outcome_found Unfinished = refl

-- a result of parsing, taken as an option, is the definition's outcome of the word
pub outcome_parsed : {E : Type 0} (word : List ℕ) (r : Result Outcome E) → ParsesOutcome word r
    → result_ok r ≡ outcome_of word
outcome_parsed word (Ok o) is = subst (λ w. Some o ≡ outcome_of w) (sym is) (outcome_found o)
outcome_parsed word (Err e) none =
    rw (other WhiteWins, other BlackWins, other Draw, other Unfinished) refl
  where
    by_test : (o : Outcome) (t : Bool) → bytes_eq (outcome_text o) word ≡ t → t ≡ false
    by_test o true is = absurd (none o (sym ((bytes_eq-Decides (outcome_text o) word).0 is)))
    by_test o false is = refl

    other : (o : Outcome) → bytes_eq (outcome_text o) word ≡ false
    other o = by_test o (bytes_eq (outcome_text o) word) refl
