-- A game that is read in a text is read in each part of it that holds the game (in_parts), as its tokens are the same
-- there (GamesAlike). So a part that holds whole games has the same reports alone as in the text (reported_alike), and
-- so have all parts together (reported_alone, all_reported_alike) and a text's pieces (pieces_alike). By induction on
-- the games of a part, and on the parts.
use Rattle.std.proofs.Common.{◌≡◌, ℕ, zero, suc, ◌+◌, ◌-◌, ◌<◌, ◌≤◌, true, false, List, [], ◌∷◌, ◌++◌, length, take, drop, Option, Some, None, Ok, Err, refl, sym, ap, subst, ◌∙◌, append_assoc, append-nil, length-append, arith, le-leb, is_some, nat_le, if◌then◌else◌}
use Rattle.std.specs.{List.concat, List.flat_map, List.list_all, Option.option_map_or}
use Rattle.std.proofs.Math.Seq.{drop-length, take-length}
use Rattle.std.proofs.lemmas.List.{take-append-drop, take-append-le, length-drop, append_cancel_left}
use Rattle.chess_game.specs.{Game.State, declared.game.TheConstants.MOST_MOVES, declared.verdicts.Verdict.Verdict}
use Rattle.chess_pgn.specs.GameRead.{GameRead, ending, pgn_read, read_of_split, tagged_variant}
use Rattle.pgn_tokens.specs.{LastTags.tag_section, Tokens.Token, Tokens.begins_line, Tokens.tokens_from}
use Rattle.chess_pgn.specs.{ResultTags.result_tag_of, UnknownVariants.unknown_variant_in, declared.read.PgnEnd.PgnEnd, laws.TokenByToken.game_of, laws.TokenByToken.nothing_read, laws.TokenByToken.tokens_read}
use Rattle.pgn_tokens.specs.shared.Kinds.{IsOf, IsLongest, Kind, ended}
use Rattle.byte_devices.specs.Bytes.{after_byte_order_mark}
use Rattle.pgn_tokens.proofs.shared.Tokens.{read_kinds, kinds_read}
use Rattle.verify_options.specs.declared.options.Strictness.{Strictness}
use Rattle.pgn_verifier.specs.{GameFaults.judged, shared.Contradictions.variation_in}
use Rattle.pgn_verifier_laws.specs.Parts.{BeginsAlike, GamesAreInParts, HoldsWhole, no_more, game, WholeGamesAreReportedAlike, AllHoldWhole, no_parts, next_part, TextsAreReportedInParts, PiecesAreReportedAlike}
use Rattle.pgn_pieces.specs.{Pieces.cut, Stream.with_offsets, Stream.pieces, declared.pieces.TheConstants.PIECE_LEN}
use Rattle.pgn_pieces.proofs.shared.Cuts.{cut_is_all}
use Rattle.pgn_verifier_laws.proofs.{GoesOn.is_game, GoesOn.same_of, GamesAlike.Fits, GamesAlike.found, PartsRead.skips_to_end}
use Rattle.pgn_verifier_laws.proofs.PartsAlike.{TokenByToken, there, lines, over, same_variant, outcome_in, same_result, same_known, judged_so, agrees, not_before, no_mark}
use Rattle.pgn_verifier.specs.laws.Reported.{Plain, PlainGame, read_at, report_then, games_from, games_of, reports_from, reports_in, reports_on, too_long_report}

-- ---- the part

-- a token of the text that ends in the part is one of the part
module _ (before part after : List ℕ) (starts : begins_line (before ++ (part ++ after)) (length before) ≡ true) where
  same_front : (xs ys us vs : List ℕ) → xs ++ ys ≡ us ++ vs → length us ≤ length xs → take (length us) xs ≡ us
  same_front xs ys us vs e h =
      sym (take-append-le (length us) xs ys h) ∙ ap (take (length us)) e
      ∙ take-append-le (length us) us vs (omega arith) ∙ take-length us

  -- its bytes and the end of the line before it are the same, and it is the longest token there too
  fits_part : (at : ℕ) (kind : Kind) (front rest : List ℕ)
      → drop (length before + at) (before ++ (part ++ after)) ≡ front ++ rest
      → IsLongest (IsOf (begins_line (before ++ (part ++ after)) (length before + at)) kind) front rest
      → at + length front ≤ length part → Fits part (0 + at) kind front
  fits_part at kind front rest e long h =
      let there_too : drop at part ++ after ≡ front ++ rest = sym (there before part after at (omega (arith, h))) ∙ e in
      let few : length front ≤ length (drop at part) = omega (arith, h, length-drop at part) in
      let rest' : List ℕ = drop (length front) (drop at part) in
      let is : drop at part ≡ front ++ rest' =
      sym (take-append-drop (length front) (drop at part))
      ∙ ap (λ l. l ++ rest') (same_front (drop at part) after front rest there_too few) in
      let all : rest ≡ rest' ++ after =
      append_cancel_left front rest (rest' ++ after)
      (sym there_too ∙ ap (λ l. l ++ after) is ∙ append_assoc front rest' after) in
      let zero_on : 0 + at ≡ at = omega arith in
      let line : begins_line (before ++ (part ++ after)) (length before + at) ≡ begins_line part (0 + at) =
      lines before part after starts at (omega (arith, h)) ∙ ap (begins_line part) (sym zero_on) in
      record {
        rest' = rest';
        is = ap (λ n. drop n part) zero_on ∙ is;
        long = subst (λ d. IsLongest (IsOf d kind) front rest') line (record {
          is = long.is;
          longest = λ more others k m. long.longest more (others ++ after)
              (all ∙ ap (λ l. l ++ after) k ∙ append_assoc more others after) m;
        });
      }

-- ---- the game

pub in_parts : TokenByToken → GamesAreInParts
in_parts law strict plain before part after at end begins is inside =
    let text : List ℕ = before ++ (part ++ after) in
    let here : ℕ = after_byte_order_mark part at in
    let ts : List (ℕ × Token) = tokens_from text (after_byte_order_mark text (length before + at)) in
    let us : List (ℕ × Token) = tokens_from part here in
    let r : GameRead = pgn_read strict.draws_of_2014 MOST_MOVES text (length before + at) in
    let v : Option Verdict = ending strict.draws_of_2014 r.state in
    let said = judged_so strict (variation_in tokens_from text (length before + at) r.state.start)
    (unknown_variant_in (length text) ts)
    (result_tag_of (length text) ts) v end r.answer is in
    let whole : tokens_read strict.draws_of_2014 MOST_MOVES (length text) ts ≡ over r.state end =
    sym (law strict.draws_of_2014 MOST_MOVES text (length before + at))
    ∙ ap (λ a. record { state = r.state; answer = a }) said.0 in
    let f = found strict.draws_of_2014 MOST_MOVES text part (length before) 0 (length part)
    (fits_part before part after begins.line) r.state
    end (λ m low is_end. omega (arith, is_end, inside))
    (read_kinds text (after_byte_order_mark text (length before + at))) here begins.first
    (nothing_read (tagged_variant (tag_section ts))) whole in
    let own : f.own ≡ us = kinds_read part f.split ∙ ap (tokens_from part) (omega arith) in
    let shift : end.offset - length before + 0 ≡ end.offset - length before = omega arith in
    let back : PgnEnd = record end { offset = end.offset - length before } in
    let alone : pgn_read strict.draws_of_2014 MOST_MOVES part at ≡ over r.state back =
    law strict.draws_of_2014 MOST_MOVES part at
    ∙ ap (tokens_read strict.draws_of_2014 MOST_MOVES (length part)) (sym own)
    ∙ ap (λ w. game_of strict.draws_of_2014 MOST_MOVES (length part) (nothing_read w) f.own)
    (same_variant f.own ts f.tags) ∙ f.is
    ∙ ap (λ m. over r.state (record end { offset = m })) shift in
    let outcomes : outcome_in (result_tag_of (length part) us) ≡ outcome_in (result_tag_of (length text) ts) =
    ap (λ l. outcome_in (result_tag_of (length part) l)) (sym own)
    ∙ same_result (length text) (length part) f.own ts f.tags in
    let variants : is_some (unknown_variant_in (length part) us) ≡ is_some (unknown_variant_in (length text) ts) =
    ap (λ l. is_some (unknown_variant_in (length part) l)) (sym own)
    ∙ same_known (length text) (length part) f.own ts f.tags in
    record {
      judged = ap (λ (g : GameRead). judged strict (variation_in tokens_from part at g.state.start)
          (unknown_variant_in (length part) us) (result_tag_of (length part) us)
          (ending strict.draws_of_2014 g.state) g.answer)
          alone
          ∙ ap (λ fault. option_map_or Err fault (Ok (Some back)))
          (agrees strict plain (variation_in tokens_from text (length before + at) r.state.start)
          (variation_in tokens_from part at r.state.start) (unknown_variant_in (length text) ts)
          (result_tag_of (length text) ts) (unknown_variant_in (length part) us) (result_tag_of (length part) us) v end
          (end.offset - length before) variants outcomes said.1);
      state = ap (λ (g : GameRead). g.state) alone;
      some_bytes = omega (arith, f.bytes, not_before part at);
    }

-- ---- reports

-- later than at the part's first byte no byte order mark comes into question
pub next_begins : (before part after : List ℕ) (at next : ℕ) → BeginsAlike before part after at → 0 < next
    → BeginsAlike before part after next
next_begins before part after at next begins h = record {
  line = begins.line;
  first = no_mark (before ++ (part ++ after)) (length before + next) (omega (arith, h))
      ∙ sym (ap (λ m. length before + m) (no_mark part next h));
}

module _ (law : TokenByToken)
    (strict : Strictness) (plain : strict.variations ≡ false) (start : ℕ) (before part after : List ℕ) where
  -- the reports on the part alone are its games
  alone : {at : ℕ} {games : List Plain} → HoldsWhole strict before part after at games
      → BeginsAlike before part after at → at ≤ length part → (k : ℕ) → length part < k + at
      → reports_from strict start k part at ≡ games
  unfolding games_from
  alone holds begins within zero many = absurd (omega (arith, within, many))
  alone (no_more {at} none closed) begins within (suc k) many =
      ap (λ j. report_then strict.draws_of_2014 start part None j (read_at strict.draws_of_2014 part at).state
      (λ next. reports_from strict start k part next)) none
  alone (game {at} {games} end is inside more) begins within (suc k) many =
      let found = in_parts law strict plain before part after at end begins is inside in
      let next : ℕ = end.offset - length before in
      ap (λ j. report_then strict.draws_of_2014 start part None j (read_at strict.draws_of_2014 part at).state
      (λ n. reports_from strict start k part n))
      found.judged
      ∙ ap (λ (s : State). PlainGame (length s.moves) end.outcome end.termination ∷ reports_from strict start k part next)
      found.state
      ∙ ap (λ l. PlainGame (length (read_at strict.draws_of_2014 (before ++ (part ++ after))
      (length before + at)).state.moves) end.outcome
      end.termination ∷ l)
      (alone {at = end.offset - length before} {games = games} more (next_begins before part after at next begins
      (omega (arith, found.some_bytes)))
      (omega (arith, inside)) k (omega (arith, found.some_bytes, many)))

  -- so are the reports on the text, in the part, and after them come those from the part's end on
  in_text : {at : ℕ} {games : List Plain} → HoldsWhole strict before part after at games
      → BeginsAlike before part after at → at ≤ length part → (most : ℕ)
      → reports_from strict start (length games + most) (before ++ (part ++ after)) (length before + at)
      ≡ games ++ reports_from strict start most (before ++ (part ++ after)) (length before + length part)
  unfolding games_from
  in_text (no_more {at} none closed) begins within most =
      let count : 0 + most ≡ most = omega arith in
      ap (λ k. reports_from strict start k (before ++ (part ++ after)) (length before + at)) count
      ∙ skips_to_end law strict plain before part after at begins closed within none start most
  in_text (game {at} {games} end is inside more) begins within most =
      let text : List ℕ = before ++ (part ++ after) in
      let found = in_parts law strict plain before part after at end begins is inside in
      let next : ℕ = end.offset - length before in
      let here : length before + next ≡ end.offset = omega (arith, found.some_bytes) in
      let count : suc (length games) + most ≡ suc (length games + most) = omega arith in
      let report : Plain = PlainGame (length (read_at strict.draws_of_2014 text
      (length before + at)).state.moves) end.outcome end.termination in
      ap (λ k. reports_from strict start k text (length before + at)) count
      ∙ ap (λ j. report_then strict.draws_of_2014 start text None j
      (read_at strict.draws_of_2014 text (length before + at)).state
      (λ n. reports_from strict start (length games + most) text n)) is
      ∙ ap (λ n. report ∷ reports_from strict start (length games + most) text n) (sym here)
      ∙ ap (λ l. report ∷ l)
      (in_text more (next_begins before part after at next begins (omega (arith, found.some_bytes)))
      (omega (arith, inside)) most)

-- so both are the same
pub reported_alike : TokenByToken
    → WholeGamesAreReportedAlike
reported_alike law strict plain start before part after games begins holds = record {
  alone = alone law strict plain start before part after holds begins (omega arith) (length part + 1) (omega arith);
  in_text = in_text law strict plain start before part after holds begins (omega arith);
}

-- ---- all parts

-- at a text's end no game is left
nothing_left : (strict : Strictness) (start k : ℕ) (text : List ℕ)
    → reports_from strict start k text (length text) ≡ []
unfolding games_from pgn_read
nothing_left strict start zero text = refl
nothing_left strict start (suc k) text = by_first text (mark text)
  where
    mark : (text : List ℕ) → after_byte_order_mark text (length text) ≡ length text
    mark [] = refl
    mark (c ∷ cs) = no_mark (c ∷ cs) (suc (length cs)) (omega arith)

    by_first : (text : List ℕ) → after_byte_order_mark text (length text) ≡ length text
        → reports_from strict start (suc k) text (length text) ≡ []
    by_first text e =
        let none : [] ≡ tokens_from text (after_byte_order_mark text (length text)) =
        kinds_read text (ended (ap (λ n. drop n text) e ∙ drop-length text)) in
        ap (λ ts. report_then strict.draws_of_2014 start text None
        (judged strict (variation_in tokens_from text (length text)
        (read_of_split strict.draws_of_2014 MOST_MOVES (length text) ts).state.start) (unknown_variant_in
        (length text) ts)
        (result_tag_of (length text) ts) (ending strict.draws_of_2014
        (read_of_split strict.draws_of_2014 MOST_MOVES (length text) ts).state)
        (read_of_split strict.draws_of_2014 MOST_MOVES
        (length text) ts).answer) (read_of_split strict.draws_of_2014 MOST_MOVES (length text) ts).state
        (λ next. reports_from strict start k text next)) (sym none)

module _ (law : TokenByToken) (strict : Strictness) (plain : strict.variations ≡ false) where
  few : (before part after : List ℕ) {at : ℕ} {games : List Plain} → HoldsWhole strict before part after at games
      → BeginsAlike before part after at → at ≤ length part → length games + at ≤ length part
  few before part after (no_more none closed) begins within = omega (arith, within)
  few before part after (game {at} {games} end is inside more) begins within =
      let found = in_parts law strict plain before part after at end begins is inside in
      omega (
        arith,
        found.some_bytes,
        few before part after more (next_begins before part after at (end.offset - length before) begins
            (omega (arith, found.some_bytes))) (omega (arith, inside)),
      )

  -- all parts: each is reported on as its games, wherever it begins
  all_alone : {before : List ℕ} {parts : List (List ℕ)} {games : List Plain} → AllHoldWhole strict before parts games
      → (starts : List ℕ → ℕ) → flat_map (λ part. reports_on strict (starts part) part) parts ≡ games
  all_alone no_parts starts = refl
  all_alone (next_part {before} {first} {parts} {games} {more} begins holds rest) starts =
      ap (λ l. l ++ flat_map (λ part. reports_on strict (starts part) part) parts)
      (reported_alike law strict plain (starts first) before first (concat parts) games begins holds).alone
      ∙ ap (λ l. games ++ l) (all_alone rest starts)

  -- there are no more games than bytes
  few_of_all : {before : List ℕ} {parts : List (List ℕ)} {games : List Plain} → AllHoldWhole strict before parts games
      → length games ≤ length (concat parts)
  few_of_all no_parts = omega arith
  few_of_all (next_part {before} {first} {parts} {games} {more} begins holds rest) =
      omega (
        arith,
        length-append games more,
        length-append first (concat parts),
        few_of_all rest,
        few before first (concat parts) holds begins (omega arith),
      )

  -- the reports on the whole text are the games of all parts
  whole : (start k : ℕ) {before : List ℕ} {parts : List (List ℕ)} {games : List Plain}
      → AllHoldWhole strict before parts games
      → reports_from strict start (length games + k) (before ++ concat parts) (length before) ≡ games
  whole start k (no_parts {before}) =
      let all : before ++ [] ≡ before = append-nil before in
      ap (λ t. reports_from strict start (0 + k) t (length before)) all ∙ nothing_left strict start (0 + k) before
  whole start k (next_part {before} {first} {parts} {games} {more} begins holds rest) =
      let text : List ℕ = before ++ (first ++ concat parts) in
      let count : length (games ++ more) + k ≡ length games + (length more + k) =
      omega (arith, length-append games more) in
      let here : length before ≡ length before + 0 = omega arith in
      ap (λ m. reports_from strict start m text (length before)) count
      ∙ ap (λ n. reports_from strict start (length games + (length more + k)) text n) here
      ∙ (reported_alike law strict plain start before first (concat parts) games begins holds).in_text (length more + k)
      ∙ ap (λ n. games ++ reports_from strict start (length more + k) text n) (sym (length-append before first))
      ∙ ap (λ t. games ++ reports_from strict start (length more + k) t (length (before ++ first)))
      (sym (append_assoc before first (concat parts)))
      ∙ ap (λ l. games ++ l) (whole start k rest)

pub reported_alone : TokenByToken → (strict : Strictness) → strict.variations ≡ false → {before : List ℕ}
    {parts : List (List ℕ)} {games : List Plain} → AllHoldWhole strict before parts games → (starts : List ℕ → ℕ)
    → flat_map (λ part. reports_on strict (starts part) part) parts ≡ games
reported_alone law strict plain holds starts = all_alone law strict plain holds starts

pub all_reported_alike : TokenByToken
    → TextsAreReportedInParts
all_reported_alike law strict plain start parts games holds starts =
    let k : ℕ = length (concat parts) + 1 - length games in
    let count : length (concat parts) + 1 ≡ length games + k = omega (arith, few_of_all law strict plain holds) in
    ap (λ m. reports_from strict start m (concat parts) 0) count ∙ whole law strict plain start k holds
    ∙ sym (all_alone law strict plain holds starts)

-- ---- pieces

-- whole games have no fault
are_games : {strict : Strictness} {before part after : List ℕ} {at : ℕ} {games : List Plain}
    → HoldsWhole strict before part after at games → list_all is_game games ≡ true
are_games (no_more none closed) = refl
are_games (game end is inside more) = are_games more

module _ (law : TokenByToken) (strict : Strictness) (plain : strict.variations ≡ false) where
  in_pieces : {before : List ℕ} {parts : List (List ℕ)} {games : List Plain}
      → AllHoldWhole strict before parts games → (offset : ℕ) → length (concat parts) ≤ PIECE_LEN
      → flat_map (reports_in strict) (with_offsets offset parts) ≡ games
  in_pieces no_parts offset h = refl
  in_pieces (next_part {before} {first} {parts} {games} {more} begins holds rest) offset h =
      let all : length (first ++ concat parts) ≡ length first + length (concat parts) =
      length-append first (concat parts) in
      let short : nat_le (length first) PIECE_LEN ≡ true = le-leb (length first) PIECE_LEN (omega (arith, h, all)) in
      let later : List Plain = flat_map (reports_in strict) (with_offsets (offset + length first) parts) in
      let alone : reports_on strict offset first ≡ games =
      (reported_alike law strict plain offset before first (concat parts) games begins holds).alone in
      ap (λ b. (if b then games_of true strict offset first else
      too_long_report (record { offset = offset; bytes = first }) ∷ []) ++ later) short
      ∙ ap (λ l. l ++ later)
      (same_of strict offset first false true (ap (list_all is_game) alone ∙ are_games holds) ∙ alone)
      ∙ ap (λ l. games ++ l) (in_pieces rest (offset + length first) (omega (arith, h, all)))

pub pieces_alike : TokenByToken
    → PiecesAreReportedAlike
unfolding pieces
pieces_alike law strict plain text games few holds =
    let all : concat (cut text) ≡ text = cut_is_all text in
    let short : length (concat (cut text)) ≤ PIECE_LEN = omega (arith, few, ap length all) in
    let starts : List ℕ → ℕ = λ part. 0 in
    in_pieces law strict plain holds 0 short ∙ sym (all_alone law strict plain holds starts)
    ∙ sym (all_reported_alike law strict plain 0 (cut text) games holds starts) ∙ ap (reports_on strict 0) all
