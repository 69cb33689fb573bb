-- Written games, one after another, have no fault (written_texts). A game's text ends with two line feeds (text_ends),
-- after which nothing more is read (none_after), so each game's text alone has one report, which is on that game
-- (one_report). Each such text is a part that holds one whole game (all_held, by induction on the games), so by Parts
-- all texts together have these reports (all_reports).
use Rattle.std.proofs.Common.{◌≡◌, ℕ, zero, suc, ◌+◌, ◌-◌, ◌<◌, Bool, false, List, [], ◌∷◌, ◌++◌, length, drop, Some, None, Ok, refl, sym, ap, subst, ◌∙◌, inl, inr, ◌⊎◌, append_assoc, append-nil, length-append, arith, map}
use Rattle.std.specs.List.{concat, flat_map, list_all}
use Rattle.std.proofs.{Math.Seq.drop-append-add, lemmas.Grind.flat_map-append}
use Rattle.chess_game.specs.Game.{State, outcome_now, IsPlayable}
use Rattle.chess_game.specs.{declared.game.TheConstants.MOST_MOVES, declared.results.Outcome.Outcome}
use Rattle.chess_pgn.specs.{GameRead.GameRead, GameRead.ending, GameRead.pgn_read, ResultTags.result_tag_of, UnknownVariants.unknown_variant_in, declared.read.PgnEnd.PgnEnd, laws.TokenByToken.tokens_read}
use Rattle.pgn_writer.specs.{GameText.pgn, GameText.tag_lines, GameText.game_tokens, Terminations.termination_of, declared.tags.Tags.Tags, declared.termination.Termination.Termination}
use Rattle.pgn_tokens.specs.shared.Kinds.{IsSplitByKinds, IsOf, IsLongest, Blank, ended, token}
use Rattle.pgn_tokens.specs.Tokens.{Token, Skip, begins_line, tokens_from}
use Rattle.byte_devices.specs.Bytes.{after_byte_order_mark}
use Rattle.pgn_writer.specs.Written as written
use Rattle.chess_pgn_laws.specs.PgnLaw.{AreTagTexts, IsReadBack, PgnIsReadBack}
use Rattle.pgn_tokens.proofs.shared.Tokens.{kinds_read}
use Rattle.verify_options.specs.declared.options.Strictness.{Strictness}
use Rattle.pgn_verifier.specs.{GameFaults.judged, shared.Contradictions.variation_in}
use Rattle.pgn_verifier_laws.specs.NoFaults.{begins_with_mark}
use Rattle.pgn_verifier_laws.specs.Parts.{BeginsAlike, AllHoldWhole, no_parts, next_part}
use Rattle.pgn_verifier_laws.specs.WrittenGames.{HasNoFault, TaggedGame, AreWritable, written_text, report_of, WrittenTextsHaveNoFault}
use Rattle.pgn_verifier_laws.proofs.{FaultlessTexts.part_holds, FaultlessTexts.begins_first, FaultlessTexts.begins_later, GoesOn.is_game, Parts.all_reported_alike, PartsRead.in_text, OnlyReports.only_judged, WrittenGames.TagsAreWritten, WrittenGames.written_games}
use Rattle.pgn_verifier_laws.proofs.PartsAlike.{TokenByToken, read_so, judged_so, no_mark}
use Rattle.pgn_verifier.specs.laws.Reported.{Plain, PlainGame, games_from, judged_at, read_at, report_then, reports_from, reports_on}

-- ---- the end of a game's text

-- lines that are not none end with a line feed
some_end : (line : List ℕ) (lines : List (List ℕ))
    → (body : List ℕ) × (written.ended [] (line ∷ lines) ≡ body ++ 10 ∷ [])
some_end line [] = (line, append-nil (line ++ 10 ∷ []))
some_end line (next ∷ lines) =
    let more = some_end next lines in (
      (line ++ 10 ∷ []) ++ more.0,
      ap (λ l. (line ++ 10 ∷ []) ++ l) more.1 ∙ sym (append_assoc (line ++ 10 ∷ []) more.0 (10 ∷ [])),
    )

-- with an empty line after them, they end with two
two_ends : (front back : List (List ℕ)) (line : List ℕ)
    → (body : List ℕ) × (written.ended [] ((front ++ line ∷ back) ++ [] ∷ []) ≡ body ++ 10 ∷ 10 ∷ [])
two_ends front back line =
    let more = some_end line back in
    let each : List ℕ → List ℕ = λ l. l ++ 10 ∷ [] in (
      written.ended [] front ++ more.0,
      flat_map-append each (front ++ line ∷ back) ([] ∷ [])
          ∙ ap (λ l. l ++ 10 ∷ [])
          (flat_map-append each front (line ∷ back) ∙ ap (λ l. written.ended [] front ++ l) more.1
          ∙ sym (append_assoc (written.ended [] front) more.0 (10 ∷ [])))
          ∙ append_assoc (written.ended [] front ++ more.0) (10 ∷ []) (10 ∷ []),
    )

text_ends : (tags : Tags) (s : State) → (body : List ℕ) × (pgn [] tags s ≡ body ++ 10 ∷ 10 ∷ [])
unfolding pgn
text_ends tags s = two_ends (tag_lines tags s) (written.lines_of (game_tokens s)) []

-- a game's text doesn't begin with a byte order mark
text_unmarked : (tags : Tags) (s : State) → begins_with_mark (pgn [] tags s) ≡ false
unfolding pgn
text_unmarked tags s = refl

-- ---- after the game

-- a line feed is a token of its own
end_is_longest : (b : Bool) (rest : List ℕ) → IsLongest (IsOf b Blank) (10 ∷ []) rest
end_is_longest b rest = record { is = (10, refl, refl); longest = λ more others same h. no_more_bytes more h }
  where
    no_more_bytes : (more : List ℕ) → IsOf b Blank (10 ∷ more) → more ≡ []
    no_more_bytes more (c, is, h) = cc

-- the tokens at the end are the two line feeds, skipped
last_tokens : (body : List ℕ) → IsSplitByKinds (body ++ 10 ∷ 10 ∷ []) (length body)
    ((length (body ++ 10 ∷ 10 ∷ []) - length body, Skip)
    ∷ (length (body ++ 10 ∷ 10 ∷ []) - (length body + 1), Skip) ∷ [])
last_tokens body =
    let all : length body ≡ length body + 0 = omega arith in
    let both : length body + 1 + 1 ≡ length body + 2 = omega arith in
    token Blank (10 ∷ []) (10 ∷ [])
    (ap (λ n. drop n (body ++ 10 ∷ 10 ∷ [])) all ∙ drop-append-add body (10 ∷ 10 ∷ []) 0)
    (end_is_longest (begins_line (body ++ 10 ∷ 10 ∷ []) (length body)) (10 ∷ []))
    (token Blank (10 ∷ []) [] (drop-append-add body (10 ∷ 10 ∷ []) 1)
    (end_is_longest (begins_line (body ++ 10 ∷ 10 ∷ []) (length body + 1)) [])
    (ended (ap (λ n. drop n (body ++ 10 ∷ 10 ∷ [])) both ∙ drop-append-add body (10 ∷ 10 ∷ []) 2)))

-- so no game is left there, and nothing is reported (nothing_more)
none_after : TokenByToken → (strict : Strictness) (body : List ℕ) → 0 < length body
    → judged_at strict (body ++ 10 ∷ 10 ∷ []) (length body) ≡ Ok None
none_after law strict body some =
    let text : List ℕ = body ++ 10 ∷ 10 ∷ [] in
    let ts : List (ℕ × Token) = tokens_from text (after_byte_order_mark text (length body)) in
    let own : List (ℕ × Token) =
    (length text - length body, Skip) ∷ (length text - (length body + 1), Skip) ∷ [] in
    let same : ts ≡ own =
    ap (tokens_from text) (no_mark text (length body) some) ∙ sym (kinds_read text (last_tokens body)) in
    let is : pgn_read strict.draws_of_2014 MOST_MOVES text (length body)
    ≡ tokens_read strict.draws_of_2014 MOST_MOVES (length text) own =
    law strict.draws_of_2014 MOST_MOVES text (length body)
    ∙ ap (tokens_read strict.draws_of_2014 MOST_MOVES (length text)) same in
    ap (λ (r : GameRead). judged strict (variation_in tokens_from text (length body) r.state.start)
    (unknown_variant_in (length text) ts) (result_tag_of (length text) ts)
    (ending strict.draws_of_2014 r.state) r.answer) is

nothing_more : (strict : Strictness) (start k : ℕ) (text : List ℕ) (at : ℕ) → judged_at strict text at ≡ Ok None
    → reports_from strict start k text at ≡ []
unfolding games_from
nothing_more strict start zero text at none = refl
nothing_more strict start (suc k) text at none =
    ap (λ j. report_then strict.draws_of_2014 start text None j (read_at strict.draws_of_2014 text at).state
    (λ next. reports_from strict start k text next)) none

-- ---- one game

-- the end that was read has the termination that was written
same_termination : (end : PgnEnd) (o : Outcome) (t : Termination) (offset : ℕ)
    → read_so end ≡ read_so (record { outcome = o; termination = Some t; offset = offset })
    → end.termination ≡ Some t
same_termination end o t offset same =
    let ends : end ≡ record { outcome = o; termination = Some t; offset = offset } = cc in
    ap (λ (e : PgnEnd). e.termination) ends

module _ (law : TokenByToken) (read : PgnIsReadBack) (result : TagsAreWritten) (strict : Strictness)
    (plain : strict.variations ≡ false)
  where
    one_report : (start : ℕ) (g : TaggedGame) → AreTagTexts g.tags
        → IsPlayable (record { limit = MOST_MOVES; state = g.state })
        → reports_on strict start (pgn [] g.tags g.state) ≡ report_of g ∷ []
    unfolding games_from
    one_report start g texts playable =
        let text : List ℕ = pgn [] g.tags g.state in
        let T : Termination = termination_of g.tags.ended (outcome_now g.state) in
        let all : pgn [] g.tags g.state ++ [] ≡ pgn [] g.tags g.state = append-nil (pgn [] g.tags g.state) in
        let found : HasNoFault strict text 0 g.state (length text) =
        subst (λ t. HasNoFault strict t 0 g.state (length text)) all
        (written_games read result strict plain g.tags g.state [] [] texts playable) in
        let only = only_judged strict text 0 found.read (Ok (Some found.end)) found.judged in
        let is : judged_at strict text 0 ≡ Ok (Some found.end) = sym only.1 in
        let moves : (read_at strict.draws_of_2014 text 0).state.moves ≡ g.state.moves =
        sym (ap (λ (x : State). x.moves) only.0) ∙ found.moves in
        let back : IsReadBack g.state T (length text) (pgn_read strict.draws_of_2014 MOST_MOVES text 0) =
        subst (λ t. IsReadBack g.state T (length text) (pgn_read strict.draws_of_2014 MOST_MOVES t 0)) all
        (read strict.draws_of_2014 MOST_MOVES g.tags g.state [] [] texts playable) in
        let said = judged_so strict (variation_in tokens_from text 0 (read_at strict.draws_of_2014 text 0).state.start)
        (unknown_variant_in (length text) (tokens_from text (after_byte_order_mark text 0)))
        (result_tag_of (length text) (tokens_from text (after_byte_order_mark text 0)))
        (ending strict.draws_of_2014 (read_at strict.draws_of_2014 text 0).state) found.end
        (read_at strict.draws_of_2014 text 0).answer is in
        let termination : found.end.termination ≡ Some T =
        same_termination found.end (outcome_now g.state) T back.offset (sym said.0 ∙ back.answer) in
        let tail = text_ends g.tags g.state in
        let place : found.end.offset ≡ length tail.0 = omega (
          arith,
          found.two_before_end,
          ap length tail.1,
          length-append tail.0 (10 ∷ 10 ∷ []),
        ) in
        let some : 0 < found.end.offset =
        (in_text law strict plain [] text [] 0 found.end (begins_first text [] (inr refl)) (inr refl) is).some_bytes
        in
        let none : judged_at strict text found.end.offset ≡ Ok None =
        ap (λ t. judged_at strict t found.end.offset) tail.1 ∙ ap (judged_at strict (tail.0 ++ 10 ∷ 10 ∷ [])) place
        ∙ none_after law strict tail.0 (omega (arith, some, place)) in
        let count : length text + 1 ≡ suc (length text) = omega arith in
        ap (λ k. reports_from strict start k text 0) count
        ∙ ap (λ j. report_then strict.draws_of_2014 start text None j (read_at strict.draws_of_2014 text 0).state
        (λ next. reports_from strict start (length text) text next)) is
        ∙ ap (λ l. PlainGame (length (read_at strict.draws_of_2014 text 0).state.moves) found.end.outcome
        found.end.termination ∷ l)
        (nothing_more strict start (length text) text found.end.offset none)
        ∙ ap (λ ms. PlainGame (length ms) found.end.outcome found.end.termination ∷ []) moves
        ∙ ap (λ o. PlainGame (length g.state.moves) o found.end.termination ∷ []) found.outcome
        ∙ ap (λ t. PlainGame (length g.state.moves) (outcome_now g.state) t ∷ []) termination

    -- ---- all games

    abbrev text_of : TaggedGame → List ℕ
    text_of g = pgn [] g.tags g.state

    abbrev Starts : List ℕ → Type 0
    Starts before = (before ≡ []) ⊎ ((front : List ℕ) × (before ≡ front ++ 10 ∷ []))

    begins_at : (before after : List ℕ) (g : TaggedGame) → Starts before
        → BeginsAlike before (pgn [] g.tags g.state) after 0
    begins_at before after g (inl none) =
        let tail = text_ends g.tags g.state in
        subst (λ b. BeginsAlike b (pgn [] g.tags g.state) after 0) (sym none)
        (begins_first (pgn [] g.tags g.state) after
        (inl (tail.0 ++ 10 ∷ [], tail.1 ∙ sym (append_assoc tail.0 (10 ∷ []) (10 ∷ [])))))
    begins_at before after g (inr (front, is)) =
        subst (λ b. BeginsAlike b (pgn [] g.tags g.state) after 0) (sym is)
        (begins_later front (pgn [] g.tags g.state) after (text_unmarked g.tags g.state))

    next_starts : (before : List ℕ) (g : TaggedGame) → Starts (before ++ pgn [] g.tags g.state)
    next_starts before g =
        let tail = text_ends g.tags g.state in
        inr (
          before ++ (tail.0 ++ 10 ∷ []),
          ap (λ l. before ++ l) (tail.1 ∙ sym (append_assoc tail.0 (10 ∷ []) (10 ∷ [])))
              ∙ sym (append_assoc before (tail.0 ++ 10 ∷ []) (10 ∷ [])),
        )

    -- by induction over the games: each part holds one whole game
    all_held : (games : List TaggedGame) → AreWritable games → (before : List ℕ) → Starts before
        → (reports : List Plain) × AllHoldWhole strict before (map text_of games) reports
    all_held [] h before starts = ([], no_parts)
    all_held (g ∷ games) (texts, playable, h) before starts =
        let part : List ℕ = pgn [] g.tags g.state in
        let after : List ℕ = concat (map text_of games) in
        let tail = text_ends g.tags g.state in
        let begins = begins_at before after g starts in
        let one = part_holds law strict plain 0 before part after
        (inl (tail.0 ++ 10 ∷ [], tail.1 ∙ sym (append_assoc tail.0 (10 ∷ []) (10 ∷ [])))) begins
        (ap (list_all is_game) (one_report 0 g texts playable)) in
        let rest = all_held games h (before ++ part) (next_starts before g) in
        (one.games ++ rest.0, next_part begins one.holds rest.1)

    all_reports : (start : ℕ) (games : List TaggedGame) → AreWritable games
        → flat_map (λ part. reports_on strict start part) (map text_of games) ≡ map report_of games
    all_reports start [] h = refl
    all_reports start (g ∷ games) (texts, playable, h) =
        ap (λ l. l ++ flat_map (λ part. reports_on strict start part) (map text_of games))
        (one_report start g texts playable)
        ∙ ap (λ l. report_of g ∷ l) (all_reports start games h)

    joined : (games : List TaggedGame) → written_text games ≡ concat (map text_of games)
    joined [] = refl
    joined (g ∷ games) = ap (λ l. pgn [] g.tags g.state ++ l) (joined games)

pub written_texts : TokenByToken → PgnIsReadBack → TagsAreWritten → WrittenTextsHaveNoFault
written_texts law read result strict plain start games h =
    let held = all_held law read result strict plain games h [] (inl refl) in
    ap (reports_on strict start) (joined law read result strict plain games)
    ∙ all_reported_alike law strict plain start (map (λ (g : TaggedGame). pgn [] g.tags g.state) games) held.0 held.1
    (λ part. start)
    ∙ all_reports law read result strict plain start games h
