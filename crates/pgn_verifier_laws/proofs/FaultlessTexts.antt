-- If no fault is reported on a text's pieces, then their reports are those on the text (faultless_alike). A piece whose
-- reports are all on games holds whole games (part_holds), and if all parts of a text hold whole games, the reports on
-- the text are those on the parts (Parts). For this no piece may end with `\r`, and only the first may begin with a
-- byte order mark.
use Rattle.std.proofs.Common.{◌≡◌, ℕ, zero, suc, ◌+◌, ◌-◌, ◌<◌, ◌≤◌, Bool, true, false, cond, count_by, sum_by, ap₂, eqb, not, List, [], ◌∷◌, ◌++◌, length, get_or, drop, take, Option, Some, None, Result, Ok, Err, refl, sym, ap, subst, ◌∙◌, inl, inr, ◌⊎◌, append_assoc, append-nil, length-append, arith, bytes_eq, nat_le, if◌then◌else◌, ◌&&◌, ◌||◌}
use Rattle.std.specs.List.{concat, flat_map, list_all, list_any}
use Rattle.std.proofs.{lemmas.Bool.and_parts, lemmas.Bool.or_parts, lemmas.Bool.eqb-true, lemmas.Bool.Decides.nat_tests, lemmas.List.get_or_at, lemmas.List.reverse-append, Math.Path.fun_ext, lemmas.List.Folds.list_all-append, lemmas.List.Folds.sum_by-zero, lemmas.List.Sums.sum_by-cons}
use Rattle.pgn_tokens.specs.Tokens.{begins_line}
use Rattle.chess_pgn.specs.declared.read.PgnEnd.{PgnEnd}
use Rattle.byte_devices.specs.Bytes.{after_byte_order_mark}
use Rattle.pgn_pieces.specs.{Pieces.cut, Places.breaks_line, Stream.with_offsets, Stream.pieces, declared.pieces.TheConstants.PIECE_LEN}
use Rattle.pgn_pieces.proofs.shared.Cuts.{AreLines, no_texts, last_text, next_text, cut_is_all, cut_ends}
use Rattle.verify_options.specs.declared.options.Strictness.{Strictness}
use Rattle.pgn_verifier.specs.{declared.game_fault.GameFault.GameFault, declared.tally.Verified.TheVariants.EachGame, declared.tally.Verified.TheVariants.FaultReported}
use Rattle.pgn_verifier.specs.Reports.{Report, Game, Faulty, Placed, is_game as is_counted, counts_of, verified}
use Rattle.pgn_verifier_laws.specs.NoFaults.{begins_with_mark, ends_with_return, FaultlessTextsAreReportedAlike}
use Rattle.pgn_verifier_laws.specs.Parts.{BeginsAlike, HoldsWhole, no_more, game, AllHoldWhole, no_parts, next_part}
use Rattle.pgn_verifier_laws.proofs.Parts.{next_begins, reported_alike, reported_alone, all_reported_alike}
use Rattle.pgn_verifier_laws.proofs.{PartsAlike.TokenByToken, PartsAlike.no_mark, PartsRead.IsClosed, PartsRead.in_text, GoesOn.is_game, GoesOn.same_of, OnlyReports.same_of_collection}
use Rattle.pgn_verifier.specs.laws.Reported.{Plain, PlainGame, PlainFault, plain_of, without_spans, collection_placed, judged_at, read_at, report_then, games_from, games_of, reports_from, reports_in, reports_on, too_long_report}

-- ---- reports without a fault

-- a report counts 0 faults exactly if it is on a game
no_fault : (r : Plain) → eqb (cond (not (is_game r)) 1 0) 0 ≡ is_game r
no_fault (PlainGame plies outcome termination) = refl
no_fault (PlainFault fault at explanation) = refl

-- a report and the same without its span are on a game alike
game_alike : (report : Report) → is_counted report ≡ is_game (plain_of report)
game_alike (Game plies outcome termination) = refl
game_alike (Faulty fault names wrong_at part why is_unread) = refl

-- the count of faults in the reports, from the reports without their spans
faults_alike : (rs : List Placed) → count_by (λ (p : Placed). not (is_counted p.report)) rs
    ≡ sum_by (λ r. cond (not (is_game r)) 1 0) (without_spans rs)
faults_alike [] = refl
faults_alike (p ∷ rs) =
    sum_by-cons (λ (q : Placed). cond (not (is_counted q.report)) 1 0) p rs
    ∙ ap₂ (λ (b : Bool) (n : ℕ). cond (not b) 1 0 + n) (game_alike p.report) (faults_alike rs)
    ∙ sym (sum_by-cons (λ r. cond (not (is_game r)) 1 0) (plain_of p.report) (without_spans rs))

-- if each game was verified without a fault, all reports are on games
all_games : (rs : List Placed) → verified (counts_of rs) ≡ EachGame → list_all is_game (without_spans rs) ≡ true
all_games rs h = ap (λ p. list_all p (without_spans rs)) (sym (fun_ext no_fault))
    ∙ sym (sum_by-zero (λ r. cond (not (is_game r)) 1 0) (without_spans rs))
    ∙ ap (λ n. eqb n 0) (sym (faults_alike rs)) ∙ by_test (eqb (counts_of rs).faults 0) refl h
  where
    by_test : (b : Bool) → eqb (counts_of rs).faults 0 ≡ b → (if b then EachGame else FaultReported) ≡ EachGame
        → eqb (counts_of rs).faults 0 ≡ true
    by_test true e k = e
    by_test false e k = absurd (cc)

-- ---- one part

-- the part holds the games `games` whole, from its offset `at` on
pub record Holds (strict : Strictness) (before part after : List ℕ) (at : ℕ) : Type 0 where
  pub games : List Plain
  pub holds : HoldsWhole strict before part after at games

module _ (law : TokenByToken) (strict : Strictness) (plain : strict.variations ≡ false) (start : ℕ)
    (before part after : List ℕ) (closed : IsClosed part after)
  where
    -- by induction over how many games may still come (k): each is on a game, so it is in the text too, or no more come
    holds_whole : (k at : ℕ) → BeginsAlike before part after at → at ≤ length part → length part < k + at
        → list_all is_game (reports_from strict start k part at) ≡ true → Holds strict before part after at
    unfolding games_from
    holds_whole zero at begins within many h = absurd (omega (arith, within, many))
    holds_whole (suc k) at begins within many h =
        by_judged (judged_at strict part at) refl (λ next b w m g. holds_whole k next b w m g) h
      where
        by_judged : (j : Result (Option PgnEnd) GameFault) → judged_at strict part at ≡ j
            → ((next : ℕ) → BeginsAlike before part after next → next ≤ length part → length part < k + next
            → list_all is_game (reports_from strict start k part next) ≡ true → Holds strict before part after next)
            → list_all is_game (report_then strict.draws_of_2014 start part None j
            (read_at strict.draws_of_2014 part at).state
            (λ next. reports_from strict start k part next)) ≡ true
            → Holds strict before part after at
        by_judged (Ok None) e again all = record {
          games = [];
          holds = no_more e closed;
        }
        by_judged (Ok (Some end)) e again all =
            let found = in_text law strict plain before part after at end begins closed e in
            let here : length before + end.offset - length before ≡ end.offset = omega arith in
            let inside : length before + end.offset ≤ length before + length part = omega (arith, found.inside) in
            let rest = again end.offset
            (next_begins before part after at end.offset begins (omega (arith, found.some_bytes))) found.inside
            (omega (arith, many, found.some_bytes)) all in
            record {
              games =
                  PlainGame (length (read_at strict.draws_of_2014 (before ++ (part ++ after))
                  (length before + at)).state.moves) end.outcome
                  end.termination ∷ rest.games;
              holds = game (record end { offset = length before + end.offset }) found.judged inside
                  (subst (λ n. HoldsWhole strict before part after n rest.games) (sym here) rest.holds);
            }
        by_judged (Err fault) e again all = absurd (cc)

-- a part whose reports are on games holds whole games
pub part_holds : TokenByToken → (strict : Strictness) → strict.variations ≡ false → (start : ℕ)
    (before part after : List ℕ) → IsClosed part after → BeginsAlike before part after 0
    → list_all is_game (reports_on strict start part) ≡ true
    → Holds strict before part after 0
part_holds law strict plain start before part after closed begins all =
    holds_whole law strict plain start before part after closed (length part + 1) 0 begins (omega arith) (omega arith)
    all

-- ---- where parts begin

-- a part begins with a byte order mark exactly if it does with the text after it
mark_alike : (part after : List ℕ) → IsClosed part after → begins_with_mark (part ++ after) ≡ begins_with_mark part
mark_alike part after (inr none) =
    ap (λ l. begins_with_mark (part ++ l)) none ∙ ap begins_with_mark (append-nil part)
mark_alike part after (inl (body, is)) =
    ap (λ l. begins_with_mark (l ++ after)) is ∙ by_body body ∙ sym (ap begins_with_mark is)
  where
    by_body : (body : List ℕ)
        → begins_with_mark ((body ++ 10 ∷ []) ++ after) ≡ begins_with_mark (body ++ 10 ∷ [])
    by_body [] = refl
    by_body (a ∷ []) = refl
    by_body (a ∷ b ∷ []) = refl
    by_body (a ∷ b ∷ c ∷ rest) = refl

-- the first part begins as the text does
pub begins_first : (part after : List ℕ) → IsClosed part after → BeginsAlike [] part after 0
begins_first part after closed = record {
  line = refl;
  first = ap (λ b. cond b 3 0) (mark_alike part after closed) ∙ plus_none (after_byte_order_mark part 0);
}
  where
    plus_none : (n : ℕ) → n ≡ 0 + n
    plus_none n = omega arith

-- a later part begins after `\n`, and not with a byte order mark
pub begins_later : (front part after : List ℕ) → begins_with_mark part ≡ false
    → BeginsAlike (front ++ 10 ∷ []) part after 0
begins_later front part after unmarked =
    let text : List ℕ = (front ++ 10 ∷ []) ++ (part ++ after) in
    let n : ℕ = length (front ++ 10 ∷ []) in
    let count : length (front ++ 10 ∷ []) ≡ suc (length front) = omega (arith, length-append front (10 ∷ [])) in
    record {
      line = ap (begins_line text) count
          ∙ ap (λ t. begins_line t (suc (length front))) (append_assoc front (10 ∷ []) (part ++ after)) ∙ line_there;
      first = no_mark text (n + 0) (omega (arith, count))
          ∙ sym (ap (λ m. n + m) (ap (λ b. cond b 3 0) unmarked));
    }
  where
    line_there : begins_line (front ++ 10 ∷ (part ++ after)) (suc (length front)) ≡ true
    line_there =
        let there : get_or (front ++ 10 ∷ (part ++ after)) (suc (length front) - 1) 0 ≡ 10 =
        get_or_at front 10 (part ++ after) 0 (suc (length front) - 1) (omega arith) in
        let later : eqb (suc (length front)) 0 ≡ false = grind (arith, nat_tests) in
        rw (later, there) refl

-- the parts begin a text, or come after a line's end, and then none of them begins with a byte order mark
abbrev Starts : List ℕ → List (List ℕ) → Type 0
Starts before parts = ((before ≡ []) × (list_any begins_with_mark (drop 1 parts) ≡ false))
    ⊎ ((front : List ℕ) × (before ≡ front ++ 10 ∷ []) × (list_any begins_with_mark parts ≡ false))

begins_at : (before first : List ℕ) (parts : List (List ℕ)) → Starts before (first ∷ parts)
    → IsClosed first (concat parts) → BeginsAlike before first (concat parts) 0
begins_at before first parts (inl (none, unmarked)) closed =
    subst (λ b. BeginsAlike b first (concat parts) 0) (sym none) (begins_first first (concat parts) closed)
begins_at before first parts (inr (front, is, unmarked)) closed =
    subst (λ b. BeginsAlike b first (concat parts) 0) (sym is)
    (begins_later front first (concat parts)
    (or_parts (begins_with_mark first) (list_any begins_with_mark parts) unmarked).0)

-- a part that ends with a line's end, but not with `\r`, ends with `\n`
is_new_line : (front : List ℕ) (end : ℕ) → breaks_line end ≡ true → ends_with_return (front ++ end ∷ []) ≡ false
    → end ≡ 10
is_new_line front end ends other =
    eqb-true end 10
    (by_tests (eqb end 10) (eqb end 13) ends
    (sym (ap (λ xs. bytes_eq (take 1 xs) (13 ∷ [])) (reverse-append front (end ∷ []))) ∙ other))
  where
    by_tests : (a b : Bool) → (a || b) ≡ true → (b && true) ≡ false → a ≡ true
    by_tests true b h k = refl
    by_tests false true h k = absurd (cc)
    by_tests false false h k = h

-- the line feed at the part's end, regrouped
joined : (before front : List ℕ) (end : ℕ) → end ≡ 10 → before ++ (front ++ end ∷ []) ≡ (before ++ front) ++ 10 ∷ []
joined before front end is =
    sym (append_assoc before front (end ∷ [])) ∙ ap (λ c. (before ++ front) ++ c ∷ []) is

-- after a part that ends with `\n` the next one starts as it must
next_starts : (before front : List ℕ) (end : ℕ) (parts : List (List ℕ)) → end ≡ 10
    → Starts before ((front ++ end ∷ []) ∷ parts) → Starts (before ++ (front ++ end ∷ [])) parts
next_starts before front end parts ten (inl (none, unmarked)) =
    inr (before ++ front, joined before front end ten, unmarked)
next_starts before front end parts ten (inr (line, is, unmarked)) = inr (
  before ++ front,
  joined before front end ten,
  (or_parts (begins_with_mark (front ++ end ∷ [])) (list_any begins_with_mark parts) unmarked).1,
)

-- ---- all parts

-- all parts hold whole games: these, and the pieces are reported so
record AllHold (strict : Strictness) (offset : ℕ) (before : List ℕ) (parts : List (List ℕ)) : Type 0 where
  games : List Plain
  holds : AllHoldWhole strict before parts games
  reported : flat_map (reports_in strict) (with_offsets offset parts) ≡ games

nothing_held : (strict : Strictness) (offset : ℕ) (before : List ℕ) → AllHold strict offset before []
nothing_held strict offset before = record { games = []; holds = no_parts; reported = refl }

module _ (law : TokenByToken) (strict : Strictness) (plain : strict.variations ≡ false) where
  one_part : (first : List ℕ) (parts : List (List ℕ)) (before : List ℕ) (offset : ℕ)
      → BeginsAlike before first (concat parts) 0 → IsClosed first (concat parts)
      → list_all is_game (flat_map (reports_in strict) (with_offsets offset (first ∷ parts))) ≡ true
      → (list_all is_game (flat_map (reports_in strict) (with_offsets (offset + length first) parts)) ≡ true
      → AllHold strict (offset + length first) (before ++ first) parts)
      → AllHold strict offset before (first ∷ parts)
  one_part first parts before offset begins closed all again =
      by_length (nat_le (length first) PIECE_LEN) refl all
    where
      later : List Plain
      later = flat_map (reports_in strict) (with_offsets (offset + length first) parts)

      by_length : (b : Bool) → nat_le (length first) PIECE_LEN ≡ b
          → list_all is_game ((if b then games_of true strict offset first else
          too_long_report (record { offset = offset; bytes = first }) ∷ []) ++ later) ≡ true
          → AllHold strict offset before (first ∷ parts)
      by_length false e k = absurd (cc)
      by_length true e k =
          let both = and_parts (list_all is_game (games_of true strict offset first)) (list_all is_game later)
          (sym (list_all-append is_game (games_of true strict offset first) later) ∙ k) in
          let same : reports_on strict offset first ≡ games_of true strict offset first =
          same_of strict offset first true false both.0 in
          let part = part_holds law strict plain offset before first (concat parts) closed begins
          (ap (list_all is_game) same ∙ both.0) in
          let rest = again both.1 in
          record {
            games = part.games ++ rest.games;
            holds = next_part begins part.holds rest.holds;
            reported = ap (λ b. (if b then games_of true strict offset first else
                too_long_report (record { offset = offset; bytes = first }) ∷ []) ++ later) e
                ∙ ap (λ l. l ++ later) (sym same)
                ∙ ap (λ l. l ++ later)
                (reported_alike law strict plain offset before first (concat parts) part.games begins part.holds).alone
                ∙ ap (λ l. part.games ++ l) rest.reported;
          }

  all_hold : {parts : List (List ℕ)} → AreLines parts → list_any ends_with_return parts ≡ false
      → (before : List ℕ) (offset : ℕ) → Starts before parts
      → list_all is_game (flat_map (reports_in strict) (with_offsets offset parts)) ≡ true
      → AllHold strict offset before parts
  all_hold no_texts other before offset starts all = nothing_held strict offset before
  all_hold (last_text text) other before offset starts all =
      one_part text [] before offset (begins_at before text [] starts (inr refl)) (inr refl) all
      (λ rest. nothing_held strict (offset + length text) (before ++ text))
  all_hold (next_text front end {texts} ends lines) other before offset starts all =
      let both = or_parts (ends_with_return (front ++ end ∷ [])) (list_any ends_with_return texts) other in
      let ten : end ≡ 10 = is_new_line front end ends both.0 in
      let closed : IsClosed (front ++ end ∷ []) (concat texts) = inl (front, ap (λ c. front ++ c ∷ []) ten) in
      one_part (front ++ end ∷ []) texts before offset
      (begins_at before (front ++ end ∷ []) texts starts closed) closed all
      (λ rest. all_hold lines both.1 (before ++ (front ++ end ∷ [])) (offset + length (front ++ end ∷ []))
      (next_starts before front end texts ten starts) rest)

-- the law, for the pieces of a text
pub faultless_alike : TokenByToken → FaultlessTextsAreReportedAlike
unfolding pieces
faultless_alike law strict plain text none unmarked other =
    let games : list_all is_game (flat_map (reports_in strict) (with_offsets 0 (cut text))) ≡ true =
    ap (list_all is_game) (sym (same_of_collection strict true text))
    ∙ all_games (collection_placed strict true text) none in
    let all = all_hold law strict plain (cut_ends text) other [] 0 (inl (refl, unmarked)) games in
    let starts : List ℕ → ℕ = λ part. 0 in
    all.reported ∙ sym (reported_alone law strict plain all.holds starts)
    ∙ sym (all_reported_alike law strict plain 0 (cut text) all.games all.holds starts)
    ∙ ap (reports_on strict 0) (cut_is_all text)
