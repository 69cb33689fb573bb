-- If a game's fault is at what can't be read as a token, no end of the game is found (none_after), so nothing is read
-- after it (none_next). Such a fault is one of reading the game, for which the law `unreadable_games_have_no_end` says
-- so; it is never one that is looked for at a game's end.
use Rattle.std.proofs.Common.{◌≡◌, ℕ, Bool, true, false, List, length, Option, Some, None, IfErr, IfSome, Result, Ok, Err, refl, sym, ap, ◌∙◌, if◌then◌else◌}
use Rattle.std.specs.Option.{option_eq, option_map, option_map_or, option_or}
use Rattle.byte_devices.specs.Bytes.{after_byte_order_mark}
use Rattle.chess_game.specs.{Game.contradicts_verdict, Results.same_outcome, declared.game.TheConstants.MOST_MOVES, declared.verdicts.Verdict.Verdict}
use Rattle.chess_pgn.specs.{GameEnds.game_end, GameRead.ending, ResultTags.result_tag_of, UnknownVariants.unknown_variant_in, declared.read.PgnEnd.PgnEnd, declared.read.PgnFault.PgnFault, declared.tagged_result.ResultTag.ResultTag, laws.Unreadable.is_unreadable, laws.Unreadable.UnreadableGamesHaveNoEnd}
use Rattle.pgn_tokens.specs.Tokens.{tokens_from}
use Rattle.pgn_verifier.specs.GameFaults.{board_says_otherwise, judged, result_differs}
use Rattle.pgn_verifier.specs.declared.game_fault.FaultKind.TheVariants.{Pgn, InVariation, UnknownVariant}
use Rattle.pgn_verifier.specs.declared.game_fault.GameFault.{GameFault}
use Rattle.verify_options.specs.declared.options.Strictness.{Strictness}
use Rattle.pgn_verifier.specs.laws.Reported.{read_at}
use Rattle.pgn_verifier.specs.shared.Contradictions.{looked_for, variation_in}
use Rattle.pgn_verifier.specs.ties.AfterFaults.{IsFaultAt, stops_tokens}
use Rattle.pgn_verifier.proofs.FaultsInText.{either}

-- the answer with this fault, and that without one
abbrev faulty : GameFault → Result (Option PgnEnd) GameFault
faulty fault = Err fault

abbrev well : Option PgnEnd → Result (Option PgnEnd) GameFault
well o = Ok o

same_fault : (f g : GameFault) → faulty f ≡ faulty g → f ≡ g
same_fault f g e = cc

never_well : (o : Option PgnEnd) (f : GameFault) → well o ≡ faulty f → ⊥
never_well o f e = cc

-- ---- faults that are looked for at a game's end

-- the fault, if there is one, isn't at what can't be read as a token, at whatever offset
abbrev IsReadable : List ℕ → Option GameFault → Type 0
IsReadable text fault = IfSome fault (λ f. stops_tokens text f.offset f.kind ≡ false)

-- so it is for the first of two faults, for one that may not be looked for, and for each kind of fault that is looked
-- for at a game's end
first_of : (text : List ℕ) (first second : Option GameFault) → IsReadable text first → IsReadable text second
    → IsReadable text (option_or first second)
first_of text (Some fault) second h k = h
first_of text None second h k = k

looked : (text : List ℕ) (is_looked_for : Bool) (fault : Option GameFault) → IsReadable text fault
    → IsReadable text (looked_for is_looked_for fault)
looked text true fault h = h
looked text false fault h = tt

of_variation : (text : List ℕ) (found : Option PgnFault)
    → IsReadable text (option_map (λ fault. record { kind = InVariation fault.kind; offset = fault.offset }) found)
of_variation text None = tt
of_variation text (Some fault) = refl

of_variant : (text : List ℕ) (unknown : Option ℕ)
    → IsReadable text (option_map (λ at. record { kind = UnknownVariant; offset = at }) unknown)
of_variant text None = tt
of_variant text (Some at) = refl

of_tag : (text : List ℕ) (tag : Option ResultTag) (end : PgnEnd) → IsReadable text (result_differs tag end)
of_tag text None end = tt
of_tag text (Some tag) end =
    either (IsReadable text) (option_eq same_outcome tag.outcome (Some end.outcome)) None _ tt refl

of_board : (text : List ℕ) (verdict : Option Verdict) (end : PgnEnd)
    → IsReadable text (board_says_otherwise verdict end)
of_board text verdict end = either (IsReadable text) (contradicts_verdict verdict end.outcome) _ None refl tt

-- ---- what is reported of a game

-- `next` is `None` if reading the game gives a fault at what can't be read
module _ (text : List ℕ) (next : Option ℕ) (strict : Strictness) (variation : PgnEnd → Option PgnFault)
    (unknown : Option ℕ) (tag : Option ResultTag) (verdict : Option Verdict) where
  by_end : (end : PgnEnd) (found : Option GameFault) (fault : GameFault) → IsReadable text found
      → option_map_or Err found (Ok (Some end)) ≡ faulty fault → stops_tokens text fault.offset fault.kind ≡ true
      → next ≡ None
  by_end end None fault h e unread = absurd (never_well (Some end) fault e)
  by_end end (Some f) fault h e unread =
      let no : false ≡ true =
      sym h ∙ ap (λ (g : GameFault). stops_tokens text g.offset g.kind) (same_fault f fault e) ∙ unread in absurd (cc)

  by_answer : (answer : Result (Option PgnEnd) PgnFault) (fault : GameFault)
      → IfErr answer (λ f. is_unreadable text f.offset f.kind ≡ true → next ≡ None)
      → judged strict variation unknown tag verdict answer ≡ faulty fault
      → stops_tokens text fault.offset fault.kind ≡ true → next ≡ None
  by_answer (Ok None) fault law e unread = absurd (never_well None fault e)
  by_answer (Ok (Some end)) fault law e unread =
      by_end end (option_or (looked_for strict.variations
      (option_map (λ found. record { kind = InVariation found.kind; offset = found.offset }) (variation end)))
      (option_or (looked_for strict.variant (option_map (λ at. record { kind = UnknownVariant; offset = at }) unknown))
      (option_or (looked_for strict.result (result_differs tag end))
      (looked_for strict.board (board_says_otherwise verdict end))))) fault
      (first_of text _ _ (looked text strict.variations _ (of_variation text (variation end)))
      (first_of text _ _ (looked text strict.variant _ (of_variant text unknown))
      (first_of text _ _ (looked text strict.result _ (of_tag text tag end))
      (looked text strict.board _ (of_board text verdict end)))))
      e unread
  by_answer (Err f) fault law e unread =
      law (ap (λ (g : GameFault). stops_tokens text g.offset g.kind)
      (same_fault (record { kind = Pgn f.kind; offset = f.offset }) fault e) ∙ unread)

-- after a fault at what can't be read no end of the game is found
pub none_after : UnreadableGamesHaveNoEnd → (text : List ℕ) (at : ℕ) (fault : GameFault) → IsFaultAt text at fault
    → stops_tokens text fault.offset fault.kind ≡ true
    → game_end (length text) (tokens_from text (after_byte_order_mark text at)) ≡ None
none_after law text at fault (strict, is) unread =
    let draws : Bool = strict.draws_of_2014 in
    by_answer text (game_end (length text) (tokens_from text (after_byte_order_mark text at))) strict
    (variation_in tokens_from text at (read_at draws text at).state.start)
    (unknown_variant_in (length text) (tokens_from text (after_byte_order_mark text at)))
    (result_tag_of (length text) (tokens_from text (after_byte_order_mark text at)))
    (ending draws (read_at draws text at).state) (read_at draws text at).answer fault
    (law draws MOST_MOVES text at) is unread

-- so nothing is read after it
pub none_next : (goes_on : Bool) (next : Option ℕ) → next ≡ None → None ≡ (if goes_on then next else None)
none_next true next h = sym h
none_next false next h = refl
