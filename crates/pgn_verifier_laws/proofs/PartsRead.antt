-- A part of a text that ends with a line, or with the text, is read alone as it is in the text, if it has no fault: a
-- token of the part is one of the text (same), so a game of the part is one of the text (in_text). And where the part
-- has no more games, reading skips to the part's end (skips_to_end).
use Rattle.std.proofs.Common.{◌≡◌, ℕ, zero, suc, ◌+◌, ◌-◌, ◌<◌, ◌≤◌, Bool, true, false, cond, eqb, List, [], ◌∷◌, ◌++◌, length, take, drop, Option, Some, None, Result, Ok, Err, refl, sym, ap, subst, ◌∙◌, inl, inr, ◌⊎◌, append_assoc, append-nil, length-append, arith, bytes_eq, is_some, nat_lt, codes, ◌&&◌, ◌==◌, if◌then◌else◌, option_and_then}
use Rattle.std.specs.{List.last_or, Option.option_map, Option.option_map_or}
use Rattle.std.proofs.{lemmas.Bool.and_parts, lemmas.Bool.Decides.nat_tests, lemmas.List.drop-append-le, lemmas.List.length-drop, lemmas.List.take-append-drop, lemmas.Slice.Eq.bytes_eq-Decides}
use Rattle.chess_base.specs.{declared.fen_fault.FenFault.FenFault, declared.man.Variant.Variant, declared.man.Variant.TheVariants.Normal, declared.setup.Setup.Setup}
use Rattle.chess_fen.specs.Reading.{fen_reading_as}
use Rattle.chess_game.specs.{Game.State, Game.current, declared.game.TheConstants.MOST_MOVES, declared.verdicts.Verdict.Verdict}
use Rattle.chess_text.specs.{declared.reading.Reading.Reading, Moves.reading}
use Rattle.chess_text.specs.declared.reading.Reading.TheVariants as reads
use Rattle.chess_pgn.specs.GameRead.{GameRead, ending, pgn_read, tagged_variant}
use Rattle.pgn_tokens.specs.shared.TagsNamed.{tags_named}
use Rattle.chess_pgn.specs.shared.VariantNames.{is_known_variant, variant_named}
use Rattle.pgn_tokens.specs.LastTags.{may_precede_tags, tag_section}
use Rattle.chess_pgn.specs.ResultTags.{result_tag_of}
use Rattle.pgn_tokens.specs.shared.Kinds.{IsSplitByKinds, IsOf, IsLongest, Kind, token_of, Blank, Line, Comment, Nag, Variation, Tag_pair, Asterisk, Symbol, ended, token, stopped}
use Rattle.pgn_tokens.specs.Tokens.{Token, Skip, Tag, Word, Bad_tag, Unclosed_comment, Unclosed_variation, Bad, begins_line, tokens_from}
use Rattle.byte_devices.specs.Bytes.{after_byte_order_mark}
use Rattle.pgn_writer.specs.Outcomes.{outcome_of}
use Rattle.chess_pgn.specs.{laws.WordKinds.word_kind, declared.read.PgnEnd.PgnEnd, declared.read.PgnFault.PgnFault, declared.read.PgnFaultKind.TheVariants.NoResult, declared.tagged_result.ResultTag.ResultTag, UnknownVariants.unknown_variant_in}
use Rattle.chess_pgn.specs.laws.TokenByToken.{SoFar, Step, On, Stop, move_step, word_step, fen_step, step, read_rest_with, game_of, nothing_read, tokens_read}
use Rattle.chess_pgn.proofs.shared.Words.{word_cases}
use Rattle.pgn_tokens.proofs.shared.Tokens.{read_kinds, kinds_read, stays_longest, token_some}
use Rattle.verify_options.specs.declared.options.Strictness.{Strictness}
use Rattle.pgn_verifier.specs.{GameFaults.judged, shared.Contradictions.end_fault, shared.Contradictions.variation_in, declared.game_fault.GameFault.GameFault}
use Rattle.pgn_verifier_laws.specs.Parts.{BeginsAlike}
use Rattle.pgn_verifier_laws.proofs.GamesAlike.{Fits, found}
use Rattle.pgn_verifier_laws.proofs.PartsAlike.{TokenByToken, there, lines, over, own_more, same_variant, outcome_in, same_result, same_known, faults_stop, read_so, found_so, judged_so, agrees, not_before, no_mark}
use Rattle.pgn_verifier.specs.laws.Reported.{games_from, judged_at, read_at, report_then, reports_from}

-- the reader's answer at the text's end, if no game was begun
abbrev no_game : Result (Option PgnEnd) PgnFault
no_game = Ok None

-- the last tags Variant and Result of these tags
abbrev variant_in : List (List ℕ × ℕ) → Variant
variant_in tags = option_map_or (λ (tag : List ℕ × ℕ). variant_named tag.0) (last_or None tags) Normal

abbrev result_in : ℕ → List (List ℕ × ℕ) → Option ResultTag
result_in total tags = option_map (λ (tag : List ℕ × ℕ). record {
  outcome = outcome_of tag.0;
  offset = total - tag.1;
  len = length tag.0;
}) (last_or None tags)

-- where the last tag Variant begins, if it names no known variant
abbrev unknown_in : ℕ → List (List ℕ × ℕ) → Option ℕ
unknown_in total tags = option_and_then
    (λ (tag : List ℕ × ℕ). if is_known_variant tag.0 then None else Some (total - tag.1)) (last_or None tags)

-- a part ends with a line, or the text ends with it
abbrev pub IsClosed : List ℕ → List ℕ → Type 0
IsClosed part after = ((front : List ℕ) × (part ≡ front ++ 10 ∷ [])) ⊎ (after ≡ [])

-- ---- tokens that are passed over

-- whether a token is skipped, or marks
abbrev is_passed : Token → Bool
is_passed Skip = true
is_passed (Word word) = may_precede_tags (Word word)
is_passed _ = false

-- what a token does, which is passed over (the flag) or not: nothing; or a tag, number or move is met; or reading stops
-- with a fault, or with a game
data Pass (passed : Bool) (g : SoFar) : Step → Type 0 where
  passes : passed ≡ true → Pass passed g (On g)
  meets : (h : SoFar) → passed ≡ false → h.is_met ≡ true → Pass passed g (On h)
  fails : (s : State) (f : PgnFault) → passed ≡ false → Pass passed g (Stop (record { state = s; answer = Err f }))
  wins : (s : State) (end : PgnEnd) → passed ≡ false → Pass passed g (Stop (over s end))

-- a step by a test does what both branches do
one_of : (p : Bool) (g : SoFar) (b : Bool) (u v : Step) → Pass p g u → Pass p g v → Pass p g (cond b u v)
one_of p g true u v h k = h
one_of p g false u v h k = k

-- a word of a move meets one, or fails
move_pass : (draws : Bool) (limit : ℕ) (g : SoFar) (m : ℕ) (r : Reading) → Pass false g (move_step draws limit g m r)
move_pass draws limit g m reads.NotAMove = fails _ _ refl
move_pass draws limit g m (reads.Move x) =
    one_of false g (is_some (ending draws g.state)) _ _ (fails _ _ refl)
    (one_of false g (nat_lt (length g.state.moves) limit) _ _ (meets _ refl refl) (fails _ _ refl))
move_pass draws limit g m reads.Ambiguous =
    one_of false g (is_some (ending draws g.state)) _ _ (fails _ _ refl)
    (one_of false g (nat_lt (length g.state.moves) limit) _ _ (fails _ _ refl) (fails _ _ refl))
move_pass draws limit g m reads.NoSuch =
    one_of false g (is_some (ending draws g.state)) _ _ (fails _ _ refl)
    (one_of false g (nat_lt (length g.state.moves) limit) _ _ (fails _ _ refl) (fails _ _ refl))

-- a word, by its kind
word_pass : (draws : Bool) (limit : ℕ) (word : List ℕ) (g : SoFar) (m : ℕ)
    → Pass (may_precede_tags (Word word)) g (word_step draws limit g m word (word_kind word))
word_pass draws limit word =
    word_cases (λ steps precedes. (g : SoFar) (m : ℕ) → Pass precedes g (steps g m)) draws limit word
    (λ o g m. wins _ _ refl)
    (λ g m. meets _ refl refl) (λ g m. passes refl) (λ g m. move_pass draws limit g m (reading (current g.state) word))

-- a FEN tag
fen_pass : (g : SoFar) (m : ℕ) (r : Result Setup FenFault) → Pass false g (fen_step g m r)
fen_pass g m (Ok start) = meets _ refl refl
fen_pass g m (Err fault) = fails _ _ refl

-- each token
pass : (draws : Bool) (limit total : ℕ) (g : SoFar) (x : ℕ) (t : Token)
    → Pass (is_passed t) g (step draws limit total g x t)
pass draws limit total g x Skip = passes refl
pass draws limit total g x (Tag name text left) =
    one_of false g g.is_begun _ _ (fails _ _ refl)
    (one_of false g (bytes_eq name (codes "FEN")) _ _
    (fen_pass g (total - left) (fen_reading_as g.state.start.variant text)) (meets _ refl refl))
pass draws limit total g x (Word word) = word_pass draws limit word g (total - x)
pass draws limit total g x Bad_tag = fails _ _ refl
pass draws limit total g x (Unclosed_comment left) = fails _ _ refl
pass draws limit total g x Unclosed_variation = fails _ _ refl
pass draws limit total g x Bad = fails _ _ refl

is_on : (b : Bool) (g : SoFar) (s : Step) → Pass b g s → b ≡ true → s ≡ On g
is_on b g s (passes e) h = refl
is_on b g s (meets k e met) h = absurd (cc)
is_on b g s (fails u f e) h = absurd (cc)
is_on b g s (wins u end e) h = absurd (cc)

-- a token that is passed over leaves the state
passed_step : (draws : Bool) (limit total : ℕ) (g : SoFar) (x : ℕ) (t : Token) → is_passed t ≡ true
    → step draws limit total g x t ≡ On g
passed_step draws limit total g x t p =
    is_on (is_passed t) g (step draws limit total g x t) (pass draws limit total g x t) p

-- and isn't a tag
passed_tags : (name : List ℕ) (x : ℕ) (t : Token) (ts : List (ℕ × Token)) → is_passed t ≡ true
    → tags_named name (tag_section ((x, t) ∷ ts)) ≡ tags_named name (tag_section ts)
passed_tags name x Skip ts p = ap (tags_named name) (own_more (x, Skip) ts)
passed_tags name x (Word word) ts p =
    ap (tags_named name) (own_more (x, Word word) ts ∙ ap (λ b. cond b ((x, Word word) ∷ tag_section ts) []) p)
passed_tags name x (Tag other text left) ts p = absurd (cc)
passed_tags name x Bad_tag ts p = absurd (cc)
passed_tags name x (Unclosed_comment left) ts p = absurd (cc)
passed_tags name x Unclosed_variation ts p = absurd (cc)
passed_tags name x Bad ts p = absurd (cc)

-- whether it is passed over doesn't depend on its offset
passed_alike : (kind : Kind) (front : List ℕ) (m n : ℕ) → is_passed (token_of kind front m) ≡ true
    → is_passed (token_of kind front n) ≡ true
passed_alike Blank front m n p = p
passed_alike Line front m n p = p
passed_alike Comment front m n p = p
passed_alike Nag front m n p = p
passed_alike Variation front m n p = p
passed_alike (Tag_pair name string closing) front m n p = p
passed_alike Asterisk front m n p = p
passed_alike Symbol front m n p = p

-- once a tag, number or move is met, there is a game or a fault
met_stays : (draws : Bool) (limit total : ℕ) (g : SoFar) (ts : List (ℕ × Token)) → g.is_met ≡ true
    → (game_of draws limit total g ts).answer ≡ Ok None → ⊥
met_stays draws limit total g [] met h = by_met g.is_met (record { kind = NoResult; offset = total }) met h
  where
    by_met : (b : Bool) (f : PgnFault) → b ≡ true → cond b (Err f) no_game ≡ no_game → ⊥
    by_met true f e k = cc
    by_met false f e k = absurd (cc)
met_stays draws limit total g (t ∷ ts) met h =
    by_step (step draws limit total g t.0 t.1) (pass draws limit total g t.0 t.1)
    (λ k e none. met_stays draws limit total k ts e none) h
  where
    by_step : (s : Step) → Pass (is_passed t.1) g s
        → ((k : SoFar) → k.is_met ≡ true → (game_of draws limit total k ts).answer ≡ Ok None → ⊥)
        → (read_rest_with s (λ k. game_of draws limit total k ts)).answer ≡ Ok None → ⊥
    by_step s (passes p) again none = again g met none
    by_step s (meets k e met) again none = again k met none
    by_step s (fails u f e) again none = cc
    by_step s (wins u end e) again none = cc

-- ---- the part

module _ (draws : Bool) (limit : ℕ) (before part after : List ℕ)
    (starts : begins_line (before ++ (part ++ after)) (length before) ≡ true) (closed : IsClosed part after)
  where
    -- the longest token at a place of the part is the longest there in the text, if the part is closed
    longer : (b : Bool) (at : ℕ) (kind : Kind) (front rest : List ℕ) → drop at part ≡ front ++ rest
        → 0 < length front → IsLongest (IsOf b kind) front rest → IsClosed part after
        → IsLongest (IsOf b kind) front (rest ++ after)
    longer b at kind front rest e some long (inl (body, is)) =
        let low : at ≤ length body = omega (
          arith,
          some,
          ap length e,
          length-append front rest,
          length-drop at part,
          ap length is,
          length-append body (10 ∷ []),
        ) in
        stays_longest b kind front rest (drop at body) after long
        (sym e ∙ ap (drop at) is ∙ drop-append-le at body (10 ∷ []) low)
    longer b at kind front rest e some long (inr none) =
        subst (λ l. IsLongest (IsOf b kind) front l) (sym (ap (λ l. rest ++ l) none ∙ append-nil rest)) long

    -- a token of the part is one of the text
    record Same (at : ℕ) (kind : Kind) (front rest : List ℕ) : Type 0 where
      few : at + length front ≤ length part
      is : drop (length before + at) (before ++ (part ++ after)) ≡ front ++ (rest ++ after)
      long : IsLongest (IsOf (begins_line (before ++ (part ++ after)) (length before + at)) kind) front (rest ++ after)

    same : (at : ℕ) (kind : Kind) (front rest : List ℕ) → drop at part ≡ front ++ rest
        → IsLongest (IsOf (begins_line part at) kind) front rest → Same at kind front rest
    same at kind front rest e long =
        let some = token_some (begins_line part at) kind front long.is in
        let few : at + length front ≤ length part =
        omega (arith, some, ap length e, length-append front rest, length-drop at part) in
        let within : at ≤ length part = omega (arith, few) in
        record {
          few = few;
          is = there before part after at within ∙ ap (λ l. l ++ after) e ∙ append_assoc front rest after;
          long = subst (λ b. IsLongest (IsOf b kind) front (rest ++ after))
              (sym (lines before part after starts at within))
              (longer (begins_line part at) at kind front rest e some long closed);
        }

    next_place : (at n : ℕ) → length before + (at + n) ≡ length before + at + n
    next_place at n = omega arith

    fits_text : (at : ℕ) (kind : Kind) (front rest : List ℕ) → drop (0 + at) part ≡ front ++ rest
        → IsLongest (IsOf (begins_line part (0 + at)) kind) front rest → at + length front ≤ length part
        → Fits (before ++ (part ++ after)) (length before + at) kind front
    fits_text at kind front rest e long h =
        let zero_on : 0 + at ≡ at = omega arith in
        let fit = same at kind front rest (ap (λ n. drop n part) (sym zero_on) ∙ e)
        (subst (λ n. IsLongest (IsOf (begins_line part n) kind) front rest) zero_on long) in
        record { rest' = rest ++ after; is = fit.is; long = fit.long }

    -- ---- no more games

    -- from a place in the part on, nothing is met up to its end
    record Passes (at : ℕ) : Type 0 where
      own : List (ℕ × Token)
      split : IsSplitByKinds (before ++ (part ++ after)) (length before + at) own
      reads_on : (g : SoFar) → game_of draws limit (length (before ++ (part ++ after))) g own
          ≡ game_of draws limit (length (before ++ (part ++ after))) g
          (tokens_from (before ++ (part ++ after)) (length before + length part))
      tags : (name : List ℕ) → tags_named name (tag_section own)
          ≡ tags_named name (tag_section (tokens_from (before ++ (part ++ after)) (length before + length part)))

    -- one token more that is passed over
    one_more : (at : ℕ) (kind : Kind) (front rest : List ℕ) → is_passed (token_of kind front (length rest)) ≡ true
        → Same at kind front rest → Passes (at + length front) → Passes at
    one_more at kind front rest p fit more =
        let total : ℕ = length (before ++ (part ++ after)) in
        let y : ℕ = length (before ++ (part ++ after)) - (length before + at) in
        let u : Token = token_of kind front (length (rest ++ after)) in
        let q : is_passed (token_of kind front (length (rest ++ after))) ≡ true =
        passed_alike kind front (length rest) (length (rest ++ after)) p in
        record {
          own = (
            length (before ++ (part ++ after)) - (length before + at),
            token_of kind front (length (rest ++ after)),
          ) ∷ more.own;
          split = token kind front (rest ++ after) {tokens = more.own} fit.is fit.long
              (subst (λ m. IsSplitByKinds (before ++ (part ++ after)) m more.own) (next_place at (length front))
              more.split);
          reads_on = λ g. ap (λ w. read_rest_with w (λ k. game_of draws limit total k more.own))
              (passed_step draws limit total g y u q) ∙ more.reads_on g;
          tags = λ name. passed_tags name y u more.own q ∙ more.tags name;
        }

    -- by induction over the tokens of the part that are left
    passed : {at : ℕ} {us : List (ℕ × Token)} → IsSplitByKinds part at us → at ≤ length part → (g : SoFar)
        → (game_of draws limit (length part) g us).answer ≡ Ok None → Passes at
    passed (ended {at = here} e) within g h =
        let all : length part ≡ here = omega (arith, within, ap length e, length-drop here part) in
        subst (λ m. Passes m) all (record {
          own = tokens_from (before ++ (part ++ after)) (length before + length part);
          split = read_kinds (before ++ (part ++ after)) (length before + length part);
          reads_on = λ k. refl;
          tags = λ name. refl;
        })
    passed (token {at = here} kind front rest {tokens} e long more) within g h =
        by_step (step draws limit (length part) g (length part - here) (token_of kind front (length rest)))
        (pass draws limit (length part) g (length part - here) (token_of kind front (length rest)))
        (λ near none. passed more near g none) h
      where
        fit : Same here kind front rest
        fit = same here kind front rest e long

        by_step : (s : Step) → Pass (is_passed (token_of kind front (length rest))) g s
            → (here + length front ≤ length part → (game_of draws limit (length part) g tokens).answer ≡ Ok None
            → Passes (here + length front))
            → (read_rest_with s (λ k. game_of draws limit (length part) k tokens)).answer ≡ Ok None → Passes here
        by_step s (passes p) again none = one_more here kind front rest p fit (again fit.few none)
        by_step s (meets k other met) again none = absurd (met_stays draws limit (length part) k tokens met none)
        by_step s (fails u f other) again none = absurd (cc)
        by_step s (wins u end other) again none = absurd (cc)
    passed (stopped {at = here} {fault} none k) within g h =
        absurd (faults_stop draws limit (length part) None (drop here part) (length part - here) g fault k h)

-- ---- a game of the part is one of the text

-- the text has a game without a fault from the part's offset `at` on: the one that the part alone has, which ends at
-- its offset `end`
pub record IsInText (strict : Strictness) (before part after : List ℕ) (at : ℕ) (end : PgnEnd) : Type 0 where
  pub judged : judged_at strict (before ++ (part ++ after)) (length before + at)
      ≡ Ok (Some (record end { offset = length before + end.offset }))
  pub inside : end.offset ≤ length part
  pub some_bytes : at < end.offset

pub in_text : TokenByToken → (strict : Strictness) → strict.variations ≡ false → (before part after : List ℕ) (at : ℕ)
    (end : PgnEnd) → BeginsAlike before part after at → IsClosed part after → judged_at strict part at ≡ Ok (Some end)
    → IsInText strict before part after at end
in_text law strict plain before part after at end begins closed is =
    let text : List ℕ = before ++ (part ++ after) in
    let here : ℕ = after_byte_order_mark part at in
    let us : List (ℕ × Token) = tokens_from part here in
    let ts : List (ℕ × Token) = tokens_from text (after_byte_order_mark text (length before + at)) in
    let r : GameRead = pgn_read strict.draws_of_2014 MOST_MOVES part at in
    let v : Option Verdict = ending strict.draws_of_2014 r.state in
    let said = judged_so strict (variation_in tokens_from part at r.state.start)
    (unknown_variant_in (length part) us)
    (result_tag_of (length part) us) v end r.answer is in
    let alone : tokens_read strict.draws_of_2014 MOST_MOVES (length part) us ≡ over r.state end =
    sym (law strict.draws_of_2014 MOST_MOVES part at) ∙ ap (λ a. record { state = r.state; answer = a }) said.0 in
    let k = found strict.draws_of_2014 MOST_MOVES part text 0 (length before) (length part)
    (fits_text strict.draws_of_2014 MOST_MOVES before part after begins.line closed) r.state end
    (λ m low is_end. omega (arith, low))
    (read_kinds part here) here (omega arith)
    (nothing_read (tagged_variant (tag_section us))) alone in
    let own : k.own ≡ ts = kinds_read text k.split ∙ ap (tokens_from text) (sym begins.first) in
    let shift : end.offset - 0 + length before ≡ length before + end.offset = omega arith in
    let moved : PgnEnd = record end { offset = length before + end.offset } in
    let whole : pgn_read strict.draws_of_2014 MOST_MOVES text (length before + at) ≡ over r.state moved =
    law strict.draws_of_2014 MOST_MOVES text (length before + at)
    ∙ ap (tokens_read strict.draws_of_2014 MOST_MOVES (length text)) (sym own)
    ∙ ap (λ w. game_of strict.draws_of_2014 MOST_MOVES (length text) (nothing_read w) k.own)
    (same_variant k.own us k.tags) ∙ k.is
    ∙ ap (λ m. over r.state (record end { offset = m })) shift in
    let outcomes : outcome_in (result_tag_of (length text) ts) ≡ outcome_in (result_tag_of (length part) us) =
    ap (λ l. outcome_in (result_tag_of (length text) l)) (sym own)
    ∙ same_result (length part) (length text) k.own us k.tags in
    let variants : is_some (unknown_variant_in (length text) ts) ≡ is_some (unknown_variant_in (length part) us) =
    ap (λ l. is_some (unknown_variant_in (length text) l)) (sym own)
    ∙ same_known (length part) (length text) k.own us k.tags in
    record {
      judged = ap (λ (g : GameRead). judged strict (variation_in tokens_from text (length before + at) g.state.start)
          (unknown_variant_in (length text) ts) (result_tag_of (length text) ts)
          (ending strict.draws_of_2014 g.state) g.answer)
          whole
          ∙ ap (λ fault. option_map_or Err fault (Ok (Some moved)))
          (agrees strict plain (variation_in tokens_from part at r.state.start)
          (variation_in tokens_from text (length before + at) r.state.start) (unknown_variant_in (length part) us)
          (result_tag_of (length part) us) (unknown_variant_in (length text) ts) (result_tag_of (length text) ts) v end
          (length before + end.offset) variants outcomes said.1);
      inside = omega (arith, k.inside);
      some_bytes = omega (arith, k.bytes, not_before part at);
    }

-- ---- where the part has no more games

-- if no game is reported, none was read
judged_none : (strict : Strictness) (variation : PgnEnd → Option PgnFault) (unknown : Option ℕ)
    (tag : Option ResultTag) (v : Option Verdict) (answer : Result (Option PgnEnd) PgnFault)
    → judged strict variation unknown tag v answer ≡ Ok None → answer ≡ Ok None
judged_none strict variation unknown tag v (Ok None) h = refl
judged_none strict variation unknown tag v (Err fault) h = absurd (cc)
judged_none strict variation unknown tag v (Ok (Some end)) h = by_fault (end_fault strict variation unknown tag v end) h
  where
    by_fault : (f : Option GameFault) → option_map_or Err f (found_so end) ≡ Ok None → read_so end ≡ no_game
    by_fault None k = absurd (cc)
    by_fault (Some f) k = absurd (cc)

-- where variations aren't looked at, they don't matter
plain_alike : (strict : Strictness) → strict.variations ≡ false → (variation variation' : PgnEnd → Option PgnFault)
    (unknown : Option ℕ) (tag : Option ResultTag) (v : Option Verdict) (answer : Result (Option PgnEnd) PgnFault)
    → judged strict variation unknown tag v answer ≡ judged strict variation' unknown tag v answer
plain_alike strict plain variation variation' unknown tag v (Ok None) = refl
plain_alike strict plain variation variation' unknown tag v (Ok (Some end)) = rw plain refl
plain_alike strict plain variation variation' unknown tag v (Err fault) = refl

-- reading begins within the part
pub mark_within : (part : List ℕ) (at : ℕ) → at ≤ length part → after_byte_order_mark part at ≤ length part
mark_within part at within = by_mark ((at == 0) && bytes_eq (take 3 part) (239 ∷ 187 ∷ 191 ∷ [])) refl
  where
    by_mark : (b : Bool) → ((at == 0) && bytes_eq (take 3 part) (239 ∷ 187 ∷ 191 ∷ [])) ≡ b
        → cond b 3 at ≤ length part
    by_mark false e = within
    by_mark true e =
        let same : take 3 part ≡ 239 ∷ 187 ∷ 191 ∷ [] =
        (bytes_eq-Decides (take 3 part) (239 ∷ 187 ∷ 191 ∷ [])).0
        (and_parts (at == 0) (bytes_eq (take 3 part) (239 ∷ 187 ∷ 191 ∷ [])) e).1 in
        omega (
          arith,
          ap length same,
          ap length (take-append-drop 3 part),
          length-append (take 3 part) (drop 3 part),
        )

pub skips_to_end : TokenByToken → (strict : Strictness) → strict.variations ≡ false → (before part after : List ℕ)
    (at : ℕ) → BeginsAlike before part after at → IsClosed part after → at ≤ length part
    → judged_at strict part at ≡ Ok None
    → (start most : ℕ) → reports_from strict start most (before ++ (part ++ after)) (length before + at)
    ≡ reports_from strict start most (before ++ (part ++ after)) (length before + length part)
unfolding games_from
skips_to_end law strict plain before part after at begins closed within none start zero = refl
skips_to_end law strict plain before part after at begins closed within none start (suc most) =
    by_place (eqb (length before + length part) 0) refl
  where
    text : List ℕ
    text = before ++ (part ++ after)

    by_place : (b : Bool) → eqb (length before + length part) 0 ≡ b
        → reports_from strict start (suc most) (before ++ (part ++ after)) (length before + at)
        ≡ reports_from strict start (suc most) (before ++ (part ++ after)) (length before + length part)
    by_place true e =
        let same : length before + at ≡ length before + length part = grind (arith, nat_tests, e, within) in
        ap (reports_from strict start (suc most) (before ++ (part ++ after))) same
    by_place false e =
        let some : 0 < length before + length part = grind (arith, nat_tests, e) in
        let p = passed strict.draws_of_2014 MOST_MOVES before part after begins.line closed
        (read_kinds part (after_byte_order_mark part at)) (mark_within part at within)
        (nothing_read (tagged_variant (tag_section (tokens_from part (after_byte_order_mark part at)))))
        (ap (λ (r : GameRead). r.answer) (sym (law strict.draws_of_2014 MOST_MOVES part at))
        ∙ judged_none strict (variation_in tokens_from part at (read_at strict.draws_of_2014 part at).state.start)
        (unknown_variant_in (length part) (tokens_from part (after_byte_order_mark part at)))
        (result_tag_of (length part) (tokens_from part (after_byte_order_mark part at)))
        (ending strict.draws_of_2014 (read_at strict.draws_of_2014 part at).state)
        (read_at strict.draws_of_2014 part at).answer none) in
        let ts : List (ℕ × Token) = tokens_from text (after_byte_order_mark text (length before + at)) in
        let us : List (ℕ × Token) =
        tokens_from text (after_byte_order_mark text (length before + length part)) in
        let at_end : tokens_from text (length before + length part) ≡ us =
        ap (tokens_from text) (sym (no_mark text (length before + length part) some)) in
        let own : p.own ≡ ts = kinds_read text p.split ∙ ap (tokens_from text) (sym begins.first) in
        let tags : (name : List ℕ) → tags_named name (tag_section ts) ≡ tags_named name (tag_section us) =
        λ name. ap (λ l. tags_named name (tag_section l)) (sym own) ∙ p.tags name
        ∙ ap (λ l. tags_named name (tag_section l)) at_end in
        let variants : tagged_variant (tag_section ts) ≡ tagged_variant (tag_section us) =
        ap variant_in (tags (codes "Variant")) in
        let unknowns : unknown_variant_in (length text) ts ≡ unknown_variant_in (length text) us =
        ap (unknown_in (length text)) (tags (codes "Variant")) in
        let results : result_tag_of (length text) ts ≡ result_tag_of (length text) us =
        ap (result_in (length text)) (tags (codes "Result")) in
        let games : tokens_read strict.draws_of_2014 MOST_MOVES (length text) ts
        ≡ tokens_read strict.draws_of_2014 MOST_MOVES (length text) us =
        ap (game_of strict.draws_of_2014 MOST_MOVES (length text) (nothing_read (tagged_variant (tag_section ts))))
        (sym own)
        ∙ p.reads_on (nothing_read (tagged_variant (tag_section ts)))
        ∙ ap (game_of strict.draws_of_2014 MOST_MOVES (length text)
        (nothing_read (tagged_variant (tag_section ts)))) at_end
        ∙ ap (λ v. game_of strict.draws_of_2014 MOST_MOVES (length text) (nothing_read v) us) variants in
        let same_read : pgn_read strict.draws_of_2014 MOST_MOVES text (length before + at)
        ≡ pgn_read strict.draws_of_2014 MOST_MOVES text (length before + length part) =
        law strict.draws_of_2014 MOST_MOVES text (length before + at) ∙ games
        ∙ sym (law strict.draws_of_2014 MOST_MOVES text (length before + length part)) in
        let here : ℕ = length before + at in
        let there : ℕ = length before + length part in
        ap (λ (r : GameRead). report_then strict.draws_of_2014 start text None
        (judged strict (variation_in tokens_from text here r.state.start)
        (unknown_variant_in (length text) ts) (result_tag_of (length text) ts)
        (ending strict.draws_of_2014 r.state) r.answer) r.state
        (λ next. reports_from strict start most text next)) same_read
        ∙ ap (λ unknown. report_then strict.draws_of_2014 start text None (judged strict
        (variation_in tokens_from text here (read_at strict.draws_of_2014 text there).state.start) unknown
        (result_tag_of (length text) ts)
        (ending strict.draws_of_2014 (read_at strict.draws_of_2014 text there).state)
        (read_at strict.draws_of_2014 text there).answer) (read_at strict.draws_of_2014 text there).state
        (λ next. reports_from strict start most text next)) unknowns
        ∙ ap (λ tag. report_then strict.draws_of_2014 start text None (judged strict
        (variation_in tokens_from text here (read_at strict.draws_of_2014 text there).state.start)
        (unknown_variant_in (length text) us) tag
        (ending strict.draws_of_2014 (read_at strict.draws_of_2014 text there).state)
        (read_at strict.draws_of_2014 text there).answer) (read_at strict.draws_of_2014 text there).state
        (λ next. reports_from strict start most text next)) results
        ∙ ap (λ r. report_then strict.draws_of_2014 start text None r (read_at strict.draws_of_2014 text there).state
        (λ next. reports_from strict start most text next))
        (plain_alike strict plain (variation_in tokens_from text here
        (read_at strict.draws_of_2014 text there).state.start)
        (variation_in tokens_from text there (read_at strict.draws_of_2014 text there).state.start)
        (unknown_variant_in (length text) us)
        (result_tag_of (length text) us) (ending strict.draws_of_2014 (read_at strict.draws_of_2014 text there).state)
        (read_at strict.draws_of_2014 text there).answer)
