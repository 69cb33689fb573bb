-- The spans of reports are found one after another in the text: a report's span begins where its game does and ends
-- after that, within the text (game_there; of a fault fault_there, and `there` in text_made), and the next begins at
-- its end or later (placed_next). So they make up the text (text_made), and those of its pieces too (collection_made).
-- All rests on the law that a text is read token by token, given as an argument (`TokenByToken`).
use Rattle.std.proofs.Common.{◌≡◌, ℕ, zero, suc, ◌+◌, ◌-◌, ◌<◌, ◌≤◌, eqb, Bool, true, false, List, [], ◌∷◌, ◌++◌, length, take, drop, Option, Some, None, IfSome, Result, Ok, Err, IfOk, refl, sym, ap, subst, ◌∙◌, append_assoc, append-nil, length-append, arith, nat_le, if◌then◌else◌, drop-drop, length-drop, length-take-le, take-append-drop}
use Rattle.std.specs.{List.concat, List.flat_map, Option.option_map_or}
use Rattle.std.proofs.{Math.Seq.drop-length, lemmas.Bool.Decides.nat_tests, lemmas.List.Folds.concat-append, lemmas.List.Sums.prefix_len-le-length}
use Rattle.chess_game.specs.declared.game.TheConstants.{MOST_MOVES}
use Rattle.chess_pgn.specs.{GameRead.GameRead, GameRead.ending, GameRead.pgn_read, ResultTags.result_tag_of, UnknownVariants.unknown_variant_in, declared.read.PgnEnd.PgnEnd, declared.read.PgnFault.PgnFault, laws.TokenByToken.tokens_read}
use Rattle.pgn_tokens.specs.Tokens.{is_white_space, tokens_from}
use Rattle.byte_devices.specs.Bytes.{after_byte_order_mark}
use Rattle.pgn_tokens.specs.shared.Kinds as kinds
use Rattle.chess_pgn.proofs.shared.Ends.{ends_in_text}
use Rattle.pgn_tokens.proofs.shared.Tokens.{kinds_read}
use Rattle.pgn_pieces.specs.{Pieces.cut, Stream.Piece, Stream.with_offsets, Stream.pieces, declared.pieces.TheConstants.PIECE_LEN}
use Rattle.pgn_pieces.proofs.shared.Cuts.{cut_is_all}
use Rattle.verify_options.specs.declared.options.Strictness.{Strictness}
use Rattle.pgn_verifier.specs.{GameFaults.judged, Reports.Placed, Reports.game_begin, declared.game_fault.GameFault.GameFault, shared.Contradictions.variation_in}
use Rattle.pgn_verifier.specs.laws.Reported.{next_at, read_at, judged_at, fault_placed, placed_then, placed_from, placed_of, placed_in, collection_placed, too_long_placed}
use Rattle.pgn_verifier.proofs.shared.ReportsAre.{later_there}
use Rattle.pgn_verifier_laws.specs.Spans.{MakeUp, no_more, next, SpansMakeUpTheText, SpansMakeUpTheCollection}
use Rattle.pgn_verifier_laws.proofs.{BlanksSkipped.begins_alike, BlanksSkipped.begins_later, BlanksSkipped.goes_on_alike, OnlyReports.only_reports, OnlyReports.only_collection_reports, PartsAlike.TokenByToken, PartsAlike.judged_so, PartsAlike.no_mark, PartsRead.mark_within}

-- ---- where a game is

-- a game begins within the text
begins_within : (text : List ℕ) (at : ℕ) → at ≤ length text → game_begin text at ≤ length text
begins_within text at h =
    let first : ℕ = after_byte_order_mark text at in
    let marked = mark_within text at h in
    let blanks = prefix_len-le-length is_white_space (drop first text) in
    let left = length-drop first text in
    omega (arith, marked, blanks, left)

-- a game that is read ends after its first byte, within the text
abbrev EndsAfter : ℕ → ℕ → Result (Option PgnEnd) PgnFault → Type 0
EndsAfter begin total r = IfOk r (λ o. IfSome o (λ e. (begin < e.offset) × (e.offset ≤ total)))

module _ (law : TokenByToken) (strict : Strictness) (text : List ℕ) (at : ℕ) (within : at ≤ length text) where
  alike : pgn_read strict.draws_of_2014 MOST_MOVES text (game_begin text at)
      ≡ pgn_read strict.draws_of_2014 MOST_MOVES text at
  alike = sym (begins_alike law strict.draws_of_2014 MOST_MOVES text at)

  -- a game's span
  game_there : (end : PgnEnd) → judged_at strict text at ≡ Ok (Some end)
      → (game_begin text at < end.offset) × (end.offset ≤ length text)
  game_there end is =
      let read = (judged_so strict (variation_in tokens_from text at (read_at strict.draws_of_2014 text at).state.start)
      (unknown_variant_in (length text) (tokens_from text (after_byte_order_mark text at)))
      (result_tag_of (length text) (tokens_from text (after_byte_order_mark text at)))
      (ending strict.draws_of_2014 (read_at strict.draws_of_2014 text at).state) end
      (read_at strict.draws_of_2014 text at).answer is).0 in
      subst (EndsAfter (game_begin text at) (length text)) (ap (λ (r : GameRead). r.answer) alike ∙ read)
      (ends_in_text strict.draws_of_2014 MOST_MOVES text (game_begin text at) (begins_within text at within))

  -- at the text's end no game is left
  none_there : game_begin text at ≡ length text → (read_at strict.draws_of_2014 text at).answer ≡ Ok None
  none_there e =
      let none : [] ≡ tokens_from text (length text) = kinds_read text (kinds.ended (drop-length text)) in
      let passed : after_byte_order_mark text (length text) ≡ length text = mark_at_end text in
      ap (λ (r : GameRead). r.answer) (sym alike
      ∙ ap (pgn_read strict.draws_of_2014 MOST_MOVES text) e ∙ law strict.draws_of_2014 MOST_MOVES text (length text)
      ∙ ap (λ n. tokens_read strict.draws_of_2014 MOST_MOVES (length text) (tokens_from text n)) passed
      ∙ ap (tokens_read strict.draws_of_2014 MOST_MOVES (length text)) (sym none))
    where
      mark_at_end : (text : List ℕ) → after_byte_order_mark text (length text) ≡ length text
      mark_at_end [] = refl
      mark_at_end (c ∷ cs) = no_mark (c ∷ cs) (suc (length cs)) (omega arith)

  -- a fault's span isn't empty: some byte is left
  fault_there : (fault : GameFault) → judged_at strict text at ≡ Err fault → game_begin text at < length text
  fault_there fault is = by_place (eqb (game_begin text at) (length text)) refl
    where
      by_place : (b : Bool) → eqb (game_begin text at) (length text) ≡ b → game_begin text at < length text
      by_place true e =
          let last : game_begin text at ≡ length text = grind (arith, nat_tests, e) in
          let none : judged_at strict text at ≡ Ok None =
          ap (judged strict (variation_in tokens_from text at (read_at strict.draws_of_2014 text at).state.start)
          (unknown_variant_in (length text) (tokens_from text (after_byte_order_mark text at)))
          (result_tag_of (length text) (tokens_from text (after_byte_order_mark text at)))
          (ending strict.draws_of_2014 (read_at strict.draws_of_2014 text at).state)) (none_there last) in
          let both : Ok None ≡ Err fault = sym none ∙ is in
          absurd (cc)
      by_place false e =
          let some = begins_within text at within in grind (arith, nat_tests, e, some)

-- ---- a text

-- the text from i on is what is before j, and the text from j on
split_at : (text : List ℕ) (i j : ℕ) → i ≤ j → drop i text ≡ take (j - i) (drop i text) ++ drop j text
split_at text i j h =
    sym (take-append-drop (j - i) (drop i text))
    ∙ ap (λ xs. take (j - i) (drop i text) ++ xs)
    (drop-drop (j - i) i text ∙ ap (λ k. drop k text) (omega (arith, h)))

-- a report in front of others, with the text before its span and in it
placed_next : (start : ℕ) (text : List ℕ) (at begin end : ℕ) (placed : Placed) (reports : List Placed) → at ≤ begin
    → begin < end → end ≤ length text → placed.begin ≡ start + begin → placed.end ≡ start + end
    → MakeUp placed.end (drop end text) reports → MakeUp (start + at) (drop at text) (placed ∷ reports)
placed_next start text at begin end placed reports low some high begins ends more =
    let a = length-drop at text in
    let b = length-drop begin text in
    let between = length-take-le (begin - at) (drop at text) (omega (arith, a, low, some, high)) in
    let game = length-take-le (end - begin) (drop begin text) (omega (arith, b, some, high)) in
    subst (λ xs. MakeUp (start + at) xs (placed ∷ reports))
    (sym (split_at text at begin low
    ∙ ap (λ xs. take (begin - at) (drop at text) ++ xs) (split_at text begin end (omega (arith, some)))))
    (next (take (begin - at) (drop at text)) (take (end - begin) (drop begin text))
    (omega (arith, begins, between, low)) (omega (arith, begins, ends, game, some)) (omega (arith, game, some)) more)

-- by induction over how many games may come (n)
text_made : TokenByToken → (goes_on : Bool) (strict : Strictness) (start n : ℕ) (text : List ℕ) (at : ℕ)
    → at ≤ length text → MakeUp (start + at) (drop at text) (placed_from goes_on strict start n text at)
unfolding placed_from
text_made law goes_on strict start zero text at within = no_more
text_made law goes_on strict start (suc n) text at within =
    by_answer (judged_at strict text at) refl (λ m h. text_made law goes_on strict start n text m h)
  where
    Later : Type 0
    Later = (m : ℕ) → m ≤ length text
        → MakeUp (start + m) (drop m text) (placed_from goes_on strict start n text m)

    -- where reading goes on after a fault
    there : IfSome (next_at goes_on text at) (λ m. (game_begin text at < m) × (m ≤ length text))
    there = subst (λ o. IfSome o (λ m. (game_begin text at < m) × (m ≤ length text))) (goes_on_alike goes_on text at)
        (later_there goes_on text (game_begin text at) (begins_within text at within))

    after_fault : (fault : GameFault) → game_begin text at < length text → (next : Option ℕ)
        → IfSome next (λ m. (game_begin text at < m) × (m ≤ length text)) → Later
        → MakeUp (start + at) (drop at text) (fault_placed strict.draws_of_2014 goes_on start text at next fault
        (read_at strict.draws_of_2014 text at).state
        ∷ option_map_or (λ m. placed_from goes_on strict start n text m) next [])
    after_fault fault some None k later =
        placed_next start text at (game_begin text at) (length text) _ _ (begins_later text at) some (omega arith) refl
        refl no_more
    after_fault fault some (Some m) k later =
        placed_next start text at (game_begin text at) m _ _ (begins_later text at) k.0 k.1 refl refl (later m k.1)

    by_answer : (r : Result (Option PgnEnd) GameFault) → judged_at strict text at ≡ r → Later
        → MakeUp (start + at) (drop at text) (placed_then strict.draws_of_2014 goes_on start text at
        (next_at goes_on text at) r
        (read_at strict.draws_of_2014 text at).state (λ m. placed_from goes_on strict start n text m))
    by_answer (Ok None) e later = no_more
    by_answer (Ok (Some end)) e later =
        let there = game_there law strict text at within end e in
        placed_next start text at (game_begin text at) end.offset _ _ (begins_later text at) there.0 there.1 refl refl
        (later end.offset there.1)
    by_answer (Err fault) e later =
        after_fault fault (fault_there law strict text at within fault e) (next_at goes_on text at) there later

text_begun : TokenByToken → (goes_on : Bool) (strict : Strictness) (start : ℕ) (text : List ℕ)
    → MakeUp start text (placed_of goes_on strict start text)
text_begun law goes_on strict start text =
    let first : start + 0 ≡ start = omega arith in
    subst (λ n. MakeUp n text (placed_of goes_on strict start text)) first
    (text_made law goes_on strict start (length text + 1) text 0 (omega arith))

-- ---- pieces

-- more text before the first span
made_after : {from : ℕ} {text : List ℕ} {reports : List Placed} → MakeUp from text reports → (offset : ℕ)
    (front : List ℕ) → from ≡ offset + length front → MakeUp offset (front ++ text) reports
made_after no_more offset front is = no_more
made_after (next {offset = from} between game {rest} {placed} {reports} begins ends some more) offset front is =
    let both = length-append front between in
    subst (λ xs. MakeUp offset xs (placed ∷ reports)) (append_assoc front between (game ++ rest))
    (next (front ++ between) game (omega (arith, begins, is, both)) ends some more)

-- one text after the other
made_both : {from : ℕ} {text : List ℕ} {reports : List Placed} → MakeUp from text reports
    → (to : ℕ) (more : List ℕ) (others : List Placed) → MakeUp to more others → to ≡ from + length text
    → MakeUp from (text ++ more) (reports ++ others)
made_both (no_more {offset} {text}) to more others h is = made_after h offset text is
made_both (next {offset} between game {rest} {placed} {reports} begins ends some later) to more others h is =
    let one = length-append between (game ++ rest) in
    let two = length-append game rest in
    let last = made_both later to more others h (omega (arith, is, begins, ends, one, two)) in
    subst (λ xs. MakeUp offset xs (placed ∷ (reports ++ others)))
    (sym (append_assoc between (game ++ rest) more
    ∙ ap (λ xs. between ++ xs) (append_assoc game rest more)))
    (next between game begins ends some last)

-- a piece that is too long has one report, whose span is all of it
piece_made : TokenByToken → (strict : Strictness) (piece : Piece)
    → MakeUp piece.offset piece.bytes (placed_in strict piece)
piece_made law strict piece = by_test (nat_le (length piece.bytes) PIECE_LEN) refl
  where
    by_test : (b : Bool) → nat_le (length piece.bytes) PIECE_LEN ≡ b → MakeUp piece.offset piece.bytes
        (if b then placed_of true strict piece.offset piece.bytes else too_long_placed piece ∷ [])
    by_test true e = text_begun law true strict piece.offset piece.bytes
    by_test false e =
        let long : PIECE_LEN < length piece.bytes = grind (arith, nat_tests, e) in
        subst (λ xs. MakeUp piece.offset xs (too_long_placed piece ∷ [])) (append-nil piece.bytes)
        (next [] piece.bytes (omega arith) refl (omega (arith, long)) no_more)

-- all pieces one after another, and `rest` after them
all_made : TokenByToken → (strict : Strictness) (offset : ℕ) (all : List (List ℕ)) (rest : List ℕ)
    → MakeUp offset (concat all ++ rest) (flat_map (placed_in strict) (with_offsets offset all))
all_made law strict offset [] rest = no_more
all_made law strict offset (piece ∷ more) rest =
    subst (λ xs. MakeUp offset xs (flat_map (placed_in strict) (with_offsets offset (piece ∷ more))))
    (sym (append_assoc piece (concat more) rest))
    (made_both (piece_made law strict (record { offset = offset; bytes = piece })) (offset + length piece)
    (concat more ++ rest) (flat_map (placed_in strict) (with_offsets (offset + length piece) more))
    (all_made law strict (offset + length piece) more rest) refl)

collection_made : TokenByToken → (strict : Strictness) (ended : Bool) (text : List ℕ)
    → MakeUp 0 text (collection_placed strict ended text)
unfolding pieces
collection_made law strict ended text = by_end ended
  where
    all : List (List ℕ)
    all = cut text

    by_end : (b : Bool) → MakeUp 0 text
        (flat_map (placed_in strict) (with_offsets 0 (if b then cut text else take (length (cut text) - 1) (cut text))))
    by_end true =
        subst (λ xs. MakeUp 0 xs (flat_map (placed_in strict) (with_offsets 0 (cut text))))
        (append-nil (concat (cut text)) ∙ cut_is_all text) (all_made law strict 0 (cut text) [])
    by_end false =
        let k : ℕ = length (cut text) - 1 in
        subst (λ xs. MakeUp 0 xs (flat_map (placed_in strict) (with_offsets 0 (take k (cut text)))))
        (sym (concat-append (take k (cut text)) (drop k (cut text))) ∙ ap concat (take-append-drop k (cut text))
        ∙ cut_is_all text)
        (all_made law strict 0 (take k (cut text)) (concat (drop k (cut text))))

-- ---- the law

pub make_up_text : TokenByToken → SpansMakeUpTheText
make_up_text law strict start text reports h =
    subst (MakeUp start text) (sym (only_reports strict start text reports h)) (text_begun law false strict start text)

pub make_up_collection : TokenByToken → SpansMakeUpTheCollection
make_up_collection law strict ended text reports h =
    subst (MakeUp 0 text) (sym (only_collection_reports strict ended text reports h))
    (collection_made law strict ended text)
