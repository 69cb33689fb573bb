-- What is alike in a text and in a part of it, whose offsets differ: bytes and beginnings of lines (there, lines);
-- steps of the reader, which differ only in the offsets of faults (OnOrFails, does, tags_alike); tags (HaveSameTags),
-- so also the variant and the result (same_variant, same_result, same_known); and what contradicts a game's result
-- (agrees). What can't be read is the game's fault (faults_stop).
use Rattle.std.proofs.Common.{◌≡◌, ℕ, zero, suc, ◌+◌, ◌-◌, ◌<◌, ◌≤◌, Bool, true, false, cond, eqb, List, [], ◌∷◌, ◌++◌, length, get_or, take, drop, Option, Some, None, Result, Ok, Err, refl, sym, ap, ◌∙◌, arith, bytes_eq, is_some, nat_lt, not, codes, map, if◌then◌else◌, ◌&&◌, option_and_then}
use Rattle.std.specs.List.{last_or, cons_option, prefix_len}
use Rattle.std.specs.Option.{option_map, option_map_or, option_or, option_eq}
use Rattle.std.proofs.{Math.Seq.drop-append-add, lemmas.Bool.Decides.nat_tests, lemmas.List.drop-append-le, lemmas.List.get_or_append_left, lemmas.List.get_or-append-add}
use Rattle.chess_base.specs.{declared.fen_fault.FenFault.FenFault, declared.man.Variant.TheVariants.Normal, declared.setup.Setup.Setup}
use Rattle.chess_fen.specs.Reading.{fen_reading_as}
use Rattle.chess_game.specs.Game.{State, current, contradicts_verdict}
use Rattle.chess_game.specs.{Results.same_outcome, declared.results.Outcome.Outcome, declared.verdicts.Verdict.Verdict}
use Rattle.chess_text.specs.{declared.reading.Reading.Reading, Moves.reading}
use Rattle.chess_text.specs.declared.reading.Reading.TheVariants as reads
use Rattle.chess_pgn.specs.GameRead.{GameRead, ending, pgn_read, tagged_variant}
use Rattle.pgn_tokens.specs.shared.TagsNamed.{tags_named}
use Rattle.chess_pgn.specs.shared.VariantNames.{is_known_variant, variant_named}
use Rattle.pgn_tokens.specs.LastTags.{may_precede_tags, tag_section, last_tag}
use Rattle.chess_pgn.specs.ResultTags.{result_tag_of}
use Rattle.pgn_tokens.specs.shared.Kinds.{IsFault}
use Rattle.chess_pgn.specs.{laws.WordKinds.word_kind, declared.read.PgnEnd.PgnEnd, declared.read.PgnFault.PgnFault, declared.tagged_result.ResultTag.ResultTag, UnknownVariants.unknown_variant_in}
use Rattle.pgn_tokens.specs.Tokens.{Token, Skip, Tag, Word, Bad_tag, Unclosed_comment, Unclosed_variation, Bad, begins_line, tokens_from}
use Rattle.byte_devices.specs.Bytes.{after_byte_order_mark}
use Rattle.pgn_writer.specs.Outcomes.{outcome_of}
use Rattle.chess_pgn.specs.laws.TokenByToken.{SoFar, Step, On, Stop, ends, move_step, word_step, fen_step, step, read_rest_with, game_of, tokens_read}
use Rattle.chess_pgn.proofs.shared.Words.{word_cases}
use Rattle.verify_options.specs.declared.options.Strictness.{Strictness}
use Rattle.pgn_verifier.specs.declared.game_fault.GameFault.{GameFault}
use Rattle.pgn_verifier.specs.GameFaults.{result_differs, board_says_otherwise, judged}
use Rattle.pgn_verifier.specs.shared.Contradictions.{contradiction, end_fault, looked_for, variant_fault, variation_fault}

-- what is read of a text is read token by token
abbrev pub TokenByToken : Type 0
TokenByToken = (draws : Bool) (limit : ℕ) → (text : List ℕ) → (at : ℕ) → pgn_read draws limit text at
    ≡ tokens_read draws limit (length text) (tokens_from text (after_byte_order_mark text at))

-- ---- places

-- the bytes from an offset in the part on, and what comes after the part
pub there : (before part after : List ℕ) (at : ℕ) → at ≤ length part
    → drop (length before + at) (before ++ (part ++ after)) ≡ drop at part ++ after
there before part after at h = drop-append-add before (part ++ after) at ∙ drop-append-le at part after h

-- a line begins at an offset of the part as it does in the text, if the part begins one
pub lines : (before part after : List ℕ) → begins_line (before ++ (part ++ after)) (length before) ≡ true → (at : ℕ)
    → at ≤ length part → begins_line (before ++ (part ++ after)) (length before + at) ≡ begins_line part at
lines before part after starts zero h = ap (begins_line (before ++ (part ++ after))) (omega arith) ∙ starts
lines before part after starts (suc k) h =
    let some : eqb (length before + suc k) 0 ≡ false = grind (arith, nat_tests) in
    let byte : get_or (before ++ (part ++ after)) (length before + suc k - 1) 0 ≡ get_or part k 0 =
    ap (λ i. get_or (before ++ (part ++ after)) i 0) (omega arith) ∙ get_or-append-add before (part ++ after) k 0
    ∙ get_or_append_left part after 0 k (omega (arith, h)) in
    let later : eqb (suc k) 0 ≡ false = grind (arith, nat_tests) in
    let here : get_or part (suc k - 1) 0 ≡ get_or part k 0 = ap (λ i. get_or part i 0) (omega arith) in
    rw (some, byte, later, here) refl

-- ---- steps

-- the game without a fault that ended so
abbrev pub over : State → PgnEnd → GameRead
over s end = record { state = s; answer = Ok (Some end) }

-- reading goes on alike in two texts, or ends with a fault in the first
pub data OnOrFails : Step → Step → Type 0 where
  on : (g : SoFar) → OnOrFails (On g) (On g)
  stops : (s : State) (f : PgnFault) (other : Step) → OnOrFails (Stop (record { state = s; answer = Err f })) other

-- if both branches are alike, so are the steps by a test
either : (b : Bool) (s t u v : Step) → OnOrFails s t → OnOrFails u v → OnOrFails (cond b s u) (cond b t v)
either true s t u v h k = h
either false s t u v h k = k

-- both steps go on with the same state g, from which the rest is read as r
pub record GoesOn (s t : Step) (later : SoFar → GameRead) (r : GameRead) : Type 0 where
  pub g : SoFar
  pub first : s ≡ On g
  pub second : t ≡ On g
  pub rest : later g ≡ r

-- a step that doesn't fail in the first text, whose game ends, goes on in both
pub goes_on : (s t : Step) (later : SoFar → GameRead) (state : State) (end : PgnEnd) → OnOrFails s t
    → read_rest_with s later ≡ over state end → GoesOn s t later (over state end)
goes_on s t later state end (on g) h = record { g = g; first = refl; second = refl; rest = h }
goes_on s t later state end (stops u f other) h =
    let wrong : Err f ≡ Ok (Some end) = ap (λ (r : GameRead). r.answer) h in absurd (cc)

-- reading a move goes on in both, or fails in both
moves_alike : (draws : Bool) (limit : ℕ) (g : SoFar) (m n : ℕ) (r : Reading)
    → OnOrFails (move_step draws limit g m r) (move_step draws limit g n r)
moves_alike draws limit g m n reads.NotAMove = stops _ _ _
moves_alike draws limit g m n (reads.Move x) =
    either (is_some (ending draws g.state)) _ _ _ _ (stops _ _ _)
    (either (nat_lt (length g.state.moves) limit) _ _ _ _ (on _) (stops _ _ _))
moves_alike draws limit g m n reads.Ambiguous =
    either (is_some (ending draws g.state)) _ _ _ _ (stops _ _ _)
    (either (nat_lt (length g.state.moves) limit) _ _ _ _ (stops _ _ _) (stops _ _ _))
moves_alike draws limit g m n reads.NoSuch =
    either (is_some (ending draws g.state)) _ _ _ _ (stops _ _ _)
    (either (nat_lt (length g.state.moves) limit) _ _ _ _ (stops _ _ _) (stops _ _ _))

-- what a word does: an outcome ends the game, any other word doesn't
pub data Does (word : List ℕ) (steps : SoFar → ℕ → Step) (precedes_tags : Bool) : Type 0 where
  ends_game : (o : Outcome) → ((g : SoFar) (m : ℕ) → steps g m ≡ ends g o (m + length word)) → precedes_tags ≡ false
      → Does word steps precedes_tags
  no_end : ((g : SoFar) (m n : ℕ) → OnOrFails (steps g m) (steps g n)) → Does word steps precedes_tags

-- by the kind of the word
pub does : (draws : Bool) (limit : ℕ) (word : List ℕ)
    → Does word (λ g m. word_step draws limit g m word (word_kind word)) (may_precede_tags (Word word))
does draws limit word =
    word_cases (Does word) draws limit word (λ o. ends_game o (λ g m. refl) refl) (no_end (λ g m n. on _))
    (no_end (λ g m n. on _)) (no_end (λ g m n. moves_alike draws limit g m n (reading (current g.state) word)))

fens_alike : (g : SoFar) (m n : ℕ) (r : Result Setup FenFault) → OnOrFails (fen_step g m r) (fen_step g n r)
fens_alike g m n (Ok start) = on _
fens_alike g m n (Err fault) = stops _ _ _

pub tags_alike : (draws : Bool) (limit total small x y : ℕ) (g : SoFar) (name text : List ℕ) (m n : ℕ)
    → OnOrFails (step draws limit total g x (Tag name text m)) (step draws limit small g y (Tag name text n))
tags_alike draws limit total small x y g name text m n =
    either g.is_begun _ _ _ _ (stops _ _ _)
    (either (bytes_eq name (codes "FEN")) _ _ _ _
    (fens_alike g (total - m) (small - n) (fen_reading_as g.state.start.variant text)) (on _))

-- ---- the texts of tags

-- the strings of the tags with this name, as far as they can be the game's
abbrev pub texts : List ℕ → List (ℕ × Token) → List (List ℕ)
texts name ts = map (λ (t : List ℕ × ℕ). t.0) (tags_named name (tag_section ts))

-- each name has the same strings in two lists of tokens, wherever they are
abbrev pub HaveSameTags : List (ℕ × Token) → List (ℕ × Token) → Type 0
HaveSameTags us ts = (name : List ℕ) → texts name us ≡ texts name ts

-- with one token more in front, the tags of a game are that token and its tags, if the token may precede tags
pub own_more : (t : ℕ × Token) (ts : List (ℕ × Token))
    → tag_section (t ∷ ts) ≡ cond (may_precede_tags t.1) (t ∷ tag_section ts) []
own_more t ts = by_test (may_precede_tags t.1)
  where
    count : ℕ
    count = prefix_len (λ (u : ℕ × Token). may_precede_tags u.1) ts

    by_test : (b : Bool) → take (cond b (1 + prefix_len (λ (u : ℕ × Token). may_precede_tags u.1) ts) 0) (t ∷ ts)
        ≡ cond b (t ∷ tag_section ts) []
    by_test true =
        let next : 1 + prefix_len (λ (u : ℕ × Token). may_precede_tags u.1) ts
        ≡ suc (prefix_len (λ (u : ℕ × Token). may_precede_tags u.1) ts) = omega arith in
        ap (λ n. take n (t ∷ ts)) next
    by_test false = refl

-- so are their strings
opened : (name : List ℕ) (t : ℕ × Token) (ts : List (ℕ × Token)) → texts name (t ∷ ts)
    ≡ map (λ (u : List ℕ × ℕ). u.0) (tags_named name (cond (may_precede_tags t.1) (t ∷ tag_section ts) []))
opened name t ts = ap (λ l. map (λ (u : List ℕ × ℕ). u.0) (tags_named name l)) (own_more t ts)

-- a skipped token, a tag or a word in front of both lists leaves their tags the same; word_ends: a word that may not
-- precede tags leaves none
pub skip_more : (x y : ℕ) (us ts : List (ℕ × Token)) → HaveSameTags us ts
    → HaveSameTags ((y, Skip) ∷ us) ((x, Skip) ∷ ts)
skip_more x y us ts same name = opened name (y, Skip) us ∙ same name ∙ sym (opened name (x, Skip) ts)

pub tag_more : (x y m n : ℕ) (other text : List ℕ) (us ts : List (ℕ × Token)) → HaveSameTags us ts
    → HaveSameTags ((y, Tag other text n) ∷ us) ((x, Tag other text m) ∷ ts)
tag_more x y m n other text us ts same name =
    opened name (y, Tag other text n) us ∙ by_test (bytes_eq other name) ∙ sym (opened name (x, Tag other text m) ts)
  where
    by_test : (b : Bool)
        → map (λ (t : List ℕ × ℕ). t.0) (cons_option (if b then Some (text, n) else None) (tags_named name (tag_section
        us)))
        ≡ map (λ (t : List ℕ × ℕ). t.0) (cons_option (if b then Some (text, m) else None) (tags_named name (tag_section
        ts)))
    by_test true = ap (λ l. text ∷ l) (same name)
    by_test false = same name

pub word_more : (x y : ℕ) (word : List ℕ) (us ts : List (ℕ × Token)) → HaveSameTags us ts
    → HaveSameTags ((y, Word word) ∷ us) ((x, Word word) ∷ ts)
word_more x y word us ts same name =
    opened name (y, Word word) us ∙ by_test (may_precede_tags (Word word)) ∙ sym (opened name (x, Word word) ts)
  where
    by_test : (b : Bool)
        → map (λ (t : List ℕ × ℕ). t.0) (tags_named name (cond b ((y, Word word) ∷ tag_section us) []))
        ≡ map (λ (t : List ℕ × ℕ). t.0) (tags_named name (cond b ((x, Word word) ∷ tag_section ts) []))
    by_test true = same name
    by_test false = refl

pub word_ends : (y x : ℕ) (word : List ℕ) (us ts : List (ℕ × Token)) → may_precede_tags (Word word) ≡ false
    → HaveSameTags ((y, Word word) ∷ us) ((x, Word word) ∷ ts)
word_ends y x word us ts e name =
    opened name (y, Word word) us
    ∙ ap (λ b. map (λ (t : List ℕ × ℕ). t.0) (tags_named name (cond b ((y, Word word) ∷ tag_section us) []))) e
    ∙ sym (ap (λ b. map (λ (t : List ℕ × ℕ). t.0) (tags_named name (cond b ((x, Word word) ∷ tag_section ts) []))) e)
    ∙ sym (opened name (x, Word word) ts)

-- the string of the last tag, of the strings alone
last_text : (o : Option (List ℕ × ℕ)) (tags : List (List ℕ × ℕ))
    → option_map (λ (t : List ℕ × ℕ). t.0) (last_or o tags)
    ≡ last_or (option_map (λ (t : List ℕ × ℕ). t.0) o) (map (λ (t : List ℕ × ℕ). t.0) tags)
last_text o [] = refl
last_text o (t ∷ ts) = last_text (Some t) ts

-- the last tag of a name has the same string in both
same_last : (us ts : List (ℕ × Token)) → HaveSameTags us ts → (name : List ℕ)
    → option_map (λ (t : List ℕ × ℕ). t.0) (last_tag name (tag_section us))
    ≡ option_map (λ (t : List ℕ × ℕ). t.0) (last_tag name (tag_section ts))
same_last us ts same name =
    last_text None (tags_named name (tag_section us)) ∙ ap (last_or None) (same name)
    ∙ sym (last_text None (tags_named name (tag_section ts)))

pub same_variant : (us ts : List (ℕ × Token)) → HaveSameTags us ts
    → tagged_variant (tag_section us) ≡ tagged_variant (tag_section ts)
same_variant us ts same =
    by_text (last_tag (codes "Variant") (tag_section us))
    ∙ ap (λ o. option_map_or variant_named o Normal) (same_last us ts same (codes "Variant"))
    ∙ sym (by_text (last_tag (codes "Variant") (tag_section ts)))
  where
    by_text : (o : Option (List ℕ × ℕ)) → option_map_or (λ (tag : List ℕ × ℕ). variant_named tag.0) o Normal
        ≡ option_map_or variant_named (option_map (λ (t : List ℕ × ℕ). t.0) o) Normal
    by_text None = refl
    by_text (Some tag) = refl

-- the outcome that a tag Result names
abbrev pub outcome_in : Option ResultTag → Option (Option Outcome)
outcome_in tag = option_map (λ (t : ResultTag). t.outcome) tag

pub same_result : (total small : ℕ) (us ts : List (ℕ × Token)) → HaveSameTags us ts
    → outcome_in (result_tag_of small us) ≡ outcome_in (result_tag_of total ts)
same_result total small us ts same =
    by_text small (last_tag (codes "Result") (tag_section us))
    ∙ ap (option_map outcome_of) (same_last us ts same (codes "Result"))
    ∙ sym (by_text total (last_tag (codes "Result") (tag_section ts)))
  where
    by_text : (n : ℕ) (o : Option (List ℕ × ℕ))
        → outcome_in (option_map (λ (tag : List ℕ × ℕ). record {
          outcome = outcome_of tag.0;
          offset = n - tag.1;
          len
              = length tag.0;
        }) o)
        ≡ option_map outcome_of (option_map (λ (t : List ℕ × ℕ). t.0) o)
    by_text n None = refl
    by_text n (Some tag) = refl

-- a variant is known in both, or in neither
pub same_known : (total small : ℕ) (us ts : List (ℕ × Token)) → HaveSameTags us ts
    → is_some (unknown_variant_in small us) ≡ is_some (unknown_variant_in total ts)
same_known total small us ts same =
    by_text small (last_tag (codes "Variant") (tag_section us))
    ∙ ap (λ o. option_map_or (λ text. not (is_known_variant text)) o false) (same_last us ts same (codes "Variant"))
    ∙ sym (by_text total (last_tag (codes "Variant") (tag_section ts)))
  where
    by_known : (b : Bool) (offset : ℕ) → is_some (if b then None else Some offset) ≡ not b
    by_known true offset = refl
    by_known false offset = refl

    by_text : (n : ℕ) (o : Option (List ℕ × ℕ))
        → is_some (option_and_then (λ (tag : List ℕ × ℕ). if is_known_variant tag.0 then None else Some (n - tag.1)) o)
        ≡ option_map_or (λ text. not (is_known_variant text)) (option_map (λ (t : List ℕ × ℕ). t.0) o) false
    by_text n None = refl
    by_text n (Some tag) = by_known (is_known_variant tag.0) (n - tag.1)

-- ---- where the tokens end

-- no game ends at a text's end
pub none_left : (end : PgnEnd) (met : Bool) (f : PgnFault) → cond met (Err f) (Ok None) ≡ Ok (Some end) → ⊥
none_left end true f h = cc
none_left end false f h = cc

-- the fault of what can't be read is the game's
pub faults_stop : (draws : Bool) (limit total : ℕ) (o : Option PgnEnd) (xs : List ℕ) (x : ℕ) (g : SoFar) (fault : Token)
    → IsFault xs fault → (game_of draws limit total g ((x, fault) ∷ [])).answer ≡ Ok o → ⊥
faults_stop draws limit total o xs x g Skip k h = k
faults_stop draws limit total o xs x g (Tag name string left) k h = k
faults_stop draws limit total o xs x g (Word w) k h = k
faults_stop draws limit total o xs x g Bad_tag k h = cc
faults_stop draws limit total o xs x g (Unclosed_comment left) k h = cc
faults_stop draws limit total o xs x g Unclosed_variation k h = cc
faults_stop draws limit total o xs x g Bad k h = cc

-- ---- contradictions

-- how the reader answers if the game ends so; `found_so`: how the verifier does
abbrev pub read_so : PgnEnd → Result (Option PgnEnd) PgnFault
read_so end = Ok (Some end)

abbrev pub found_so : PgnEnd → Result (Option PgnEnd) GameFault
found_so end = Ok (Some end)

-- a game without a fault was read to that end, and its end has no fault
pub judged_so : (strict : Strictness) (variation : PgnEnd → Option PgnFault) (unknown : Option ℕ)
    (tag : Option ResultTag) (v : Option Verdict) (end : PgnEnd) (answer : Result (Option PgnEnd) PgnFault)
    → judged strict variation unknown tag v answer ≡ found_so end
    → (answer ≡ read_so end) × (end_fault strict variation unknown tag v end ≡ None)
judged_so strict variation unknown tag v end (Ok None) h = absurd (cc)
judged_so strict variation unknown tag v end (Err fault) h = absurd (cc)
judged_so strict variation unknown tag v end (Ok (Some e)) h =
    by_fault (end_fault strict variation unknown tag v e) refl h
  where
    by_fault : (f : Option GameFault) → end_fault strict variation unknown tag v e ≡ f
        → option_map_or Err f (found_so e) ≡ found_so end
        → (read_so e ≡ read_so end) × (end_fault strict variation unknown tag v end ≡ None)
    by_fault None k same =
        let ends : e ≡ end = cc in (ap read_so ends, ap (end_fault strict variation unknown tag v) (sym ends) ∙ k)
    by_fault (Some f) k same = absurd (cc)

none_of_two : (a b : Option GameFault) → option_or a b ≡ None → (a ≡ None) × (b ≡ None)
none_of_two None b h = (refl, h)
none_of_two (Some f) b h = absurd (cc)

-- a test by which one fault is not reported, doesn't report another; then_none: likewise with the branches exchanged
else_none : (t : Bool) (f g : GameFault) → cond t None (Some f) ≡ None → cond t None (Some g) ≡ None
else_none true f g h = refl
else_none false f g h = absurd (cc)

then_none : (t : Bool) (f g : GameFault) → cond t (Some f) None ≡ None → cond t (Some g) None ≡ None
then_none true f g h = absurd (cc)
then_none false f g h = refl

-- a tag Result that agrees with the game's end does so wherever the end is (m)
tags_agree : (tag other : Option ResultTag) (end : PgnEnd) (m : ℕ) → outcome_in other ≡ outcome_in tag
    → result_differs tag end ≡ None → result_differs other (record end { offset = m }) ≡ None
tags_agree None None end m same h = refl
tags_agree None (Some other) end m same h = absurd (cc)
tags_agree (Some tag) None end m same h = absurd (cc)
tags_agree (Some tag) (Some other) end m same h =
    let outcomes : other.outcome ≡ tag.outcome = cc in
    rw outcomes (else_none (option_eq same_outcome tag.outcome (Some end.outcome)) _ _ h)

-- so does the board, and a variant that is known (variants_agree); the three lemmas after these say it of what is
-- looked for
board_agrees : (v : Option Verdict) (end : PgnEnd) (m : ℕ) → board_says_otherwise v end ≡ None
    → board_says_otherwise v (record end { offset = m }) ≡ None
board_agrees v end m h = then_none (contradicts_verdict v end.outcome) _ _ h

variants_agree : (unknown other : Option ℕ) → is_some other ≡ is_some unknown → variant_fault unknown ≡ None
    → variant_fault other ≡ None
variants_agree None None same h = refl
variants_agree None (Some other) same h = absurd (cc)
variants_agree (Some offset) other same h = absurd (cc)

results_agree : (looked : Bool) (tag other : Option ResultTag) (end : PgnEnd) (m : ℕ)
    → outcome_in other ≡ outcome_in tag → looked_for looked (result_differs tag end) ≡ None
    → looked_for looked (result_differs other (record end { offset = m })) ≡ None
results_agree false tag other end m same h = refl
results_agree true tag other end m same h = tags_agree tag other end m same h

boards_agree : (looked : Bool) (v : Option Verdict) (end : PgnEnd) (m : ℕ)
    → looked_for looked (board_says_otherwise v end) ≡ None
    → looked_for looked (board_says_otherwise v (record end { offset = m })) ≡ None
boards_agree false v end m h = refl
boards_agree true v end m h = board_agrees v end m h

known_agree : (looked : Bool) (unknown other : Option ℕ) → is_some other ≡ is_some unknown
    → looked_for looked (variant_fault unknown) ≡ None → looked_for looked (variant_fault other) ≡ None
known_agree false unknown other same h = refl
known_agree true unknown other same h = variants_agree unknown other same h

-- a game without a fault at its end has none where it is read again: variations aren't looked at
pub agrees : (strict : Strictness) → strict.variations ≡ false → (variation variation' : PgnEnd → Option PgnFault)
    (unknown : Option ℕ) (tag : Option ResultTag) (unknown' : Option ℕ) (other : Option ResultTag) (v : Option Verdict)
    (end : PgnEnd) (m : ℕ) → is_some unknown' ≡ is_some unknown → outcome_in other ≡ outcome_in tag
    → end_fault strict variation unknown tag v end ≡ None
    → end_fault strict variation' unknown' other v (record end { offset = m }) ≡ None
agrees strict plain variation variation' unknown tag unknown' other v end m known same h =
    let first = none_of_two (looked_for strict.variations (variation_fault (variation end)))
    (option_or (looked_for strict.variant (variant_fault unknown)) (contradiction strict tag v end)) h in
    let later = none_of_two (looked_for strict.variant (variant_fault unknown)) (contradiction strict tag v end)
    first.1 in
    let both = none_of_two (looked_for strict.result (result_differs tag end))
    (looked_for strict.board (board_says_otherwise v end)) later.1 in
    rw (
      plain,
      known_agree strict.variant unknown unknown' known later.0,
      results_agree strict.result tag other end m same both.0,
    ) (boards_agree strict.board v end m both.1)

-- ---- byte order marks

-- reading begins at the offset or after it
pub not_before : (text : List ℕ) (at : ℕ) → at ≤ after_byte_order_mark text at
not_before text at = by_zero (eqb at 0) refl
  where
    by_mark : (b : Bool) → at ≡ 0 → at ≤ cond b 3 at
    by_mark true is = omega (arith, is)
    by_mark false is = omega arith

    by_zero : (z : Bool) → eqb at 0 ≡ z → at ≤ cond (z && bytes_eq (take 3 text) (239 ∷ 187 ∷ 191 ∷ [])) 3 at
    by_zero true e =
        let is : at ≡ 0 = grind (arith, nat_tests) in by_mark (bytes_eq (take 3 text) (239 ∷ 187 ∷ 191 ∷ [])) is
    by_zero false e = omega arith

pub no_mark : (text : List ℕ) (at : ℕ) → 0 < at → after_byte_order_mark text at ≡ at
no_mark text at h = let not_first : eqb at 0 ≡ false = grind (arith, nat_tests) in rw not_first refl
