-- The whole text of a game is read back (pgn_law): its tags line by line (tags_read), then its moves (text_read, from
-- PgnMoves), from the offset where it begins, whatever comes before (read_after). And of the tags that are read, the
-- last `Result` names the game's outcome (result_law), and the last `Variant` a known variant (variant_law), by
-- TagTexts.
use Rattle.std.proofs.Common.{◌≡◌, ℕ, suc, ◌+◌, ◌-◌, ◌<◌, ◌≤◌, Bool, true, false, eqb, List, [], ◌∷◌, ◌++◌, length, drop, Option, Some, None, refl, sym, ap, subst, ◌∙◌, append_assoc, arith, length-append, drop_at, codes, not, Ok, is_some, if◌then◌else◌, option_and_then}
use Rattle.std.proofs.{lemmas.Bool.Decides.nat_tests, lemmas.Slice.Eq.bytes_eq-Decides}
use Rattle.chess_base.specs.{declared.man.Variant.Variant, declared.man.Variant.TheVariants.Normal, declared.man.Variant.TheVariants.Fischerandom, declared.setup.Setup.Setup, Initial.initial_setup, Initial.initial_setup_of, Options.list_if, Sound.IsSound}
use Rattle.chess_base_laws.specs.Laws.{AfterIsSound}
use Rattle.chess_fen.specs.{Reading.fen_reading_as, Writing.fen, Writing.is_initial}
use Rattle.chess_fen_laws.specs.Laws.{WrittenIsReadBack}
use Rattle.chess_game.specs.{declared.verdicts.Verdict.Verdict, Ends.verdict_result, Results.outcome_text, declared.results.Declared.Declared, declared.results.Outcome.Outcome}
use Rattle.chess_game.specs.Game.{State, from_start, outcome_now, verdict_now, IsPlayable}
use Rattle.std.specs.Option.{option_map, option_map_or, option_or}
use Rattle.chess_game.specs.declared.results.Outcome.TheVariants.{WhiteWins, BlackWins, Draw, Unfinished}
use Rattle.pgn_writer.specs.{declared.tags.Tags.Tags, declared.termination.Termination.Termination, Terminations.termination_text, Terminations.termination_of, Outcomes.outcome_of, GameText.tag_lines, GameText.game_tokens, GameText.pgn, shared.NumberedMoves.numbered_moves, Written.escaped, Written.tag_line, Written.ended, laws.Layout.AreShort}
use Rattle.chess_pgn.specs.GameRead.{GameRead, declared_after, tagged_variant, pgn_read}
use Rattle.pgn_tokens.specs.LastTags.{tag_section, last_tag}
use Rattle.chess_pgn.specs.{declared.tagged_result.ResultTag.ResultTag, shared.VariantNames.is_known_variant, shared.VariantNames.variant_named}
use Rattle.chess_pgn.specs.laws.TokenByToken.{SoFar, game_of, nothing_read, tokens_read}
use Rattle.pgn_writer.specs.shared.TagGroups.{fen_lines, start_lines_in, last_lines, further_lines}
use Rattle.chess_pgn_laws.specs.PgnLaw.{AreTagTexts, IsReadBack, PgnIsReadBack, ResultIsWritten, VariantIsWritten}
use Rattle.pgn_tokens.specs.Tokens.{Token, begins_line, tokens_of, tokens_from}
use Rattle.byte_devices.specs.Bytes.{after_byte_order_mark}
use Rattle.pgn_writer.proofs.{shared.Lines.filled_from, shared.GameTexts.pgn_filled, shared.GameTexts.game_numbered, shared.GameTexts.game_is_short}
use Rattle.chess_pgn.proofs.shared.Games.{reads_alike, initial_variant}
use Rattle.pgn_tokens.proofs.shared.Tokens.{split_read, enough}
use Rattle.chess_pgn_laws.proofs.PgnMoves.{outcome_some, filled_long, outcome_read, read_so_far, moves_read}
use Rattle.chess_pgn_laws.proofs.PgnPieces.{read_on, TakesLine, empty_line, tagged, ended_game, plain_tag, termination_tag, fen_tag}
use Rattle.chess_pgn_laws.proofs.{PgnTags.tag_text_in_line, LastTexts.text_from, LastTexts.text_is}
use Rattle.chess_pgn_laws.proofs.TagTexts.{string_of, tags_of, result_string, variant_string_of, variant_string, said_on, text_says, outcome_in_line}

-- ---- the tags

-- the initial position is that of normal chess
initial_normal : initial_setup ≡ initial_setup_of Normal
unfolding initial_setup
initial_normal = refl

-- a start of normal chess whose FEN is the initial one is the initial position, since a FEN is read back
initial_is : WrittenIsReadBack → IsSound (initial_setup_of Normal) → (start : Setup) → start.variant ≡ Normal
    → IsSound start → is_initial start ≡ true → start ≡ initial_setup_of Normal
initial_is law initial start normal sound e =
    let same : fen start ≡ fen (initial_setup_of Normal) = (bytes_eq-Decides (fen start) (fen initial_setup)).0 e
    ∙ ap fen initial_normal in
    let here = law start sound in
    let there = law (initial_setup_of Normal) initial in
    let both : Ok start ≡ Ok (initial_setup_of Normal) = sym here ∙ ap (fen_reading_as start.variant) same
    ∙ ap (λ v. fen_reading_as v (fen (initial_setup_of Normal))) (normal ∙ sym (initial_variant Normal)) ∙ there in
    cc

-- the tags, the moves and the last line feed, grouped as they are read
grouped : (tags moves rest : List ℕ) → tags ++ moves ++ 10 ∷ [] ++ rest ≡ tags ++ (moves ++ 10 ∷ rest)
grouped tags moves rest = simp append_assoc

module _ (draws : Bool) (limit total : ℕ) where
  -- a line, and what follows it
  line_read : (g h : SoFar) (begins : Bool) (line : List ℕ) (lines : List (List ℕ)) (rest : List ℕ) (r : GameRead)
      → TakesLine draws limit total g h line → read_on draws limit total h true (ended [] lines ++ rest) ≡ r
      → read_on draws limit total g begins (ended [] (line ∷ lines) ++ rest) ≡ r
  line_read g h begins line lines rest r takes reads =
      let text : ended [] (line ∷ lines) ++ rest ≡ line ++ 10 ∷ (ended [] lines ++ rest) = simp append_assoc in
      ap (read_on draws limit total g begins) text ∙ takes begins (ended [] lines ++ rest) ∙ reads

  -- the tags FEN and SetUp, if there are such, give the start
  start_read : WrittenIsReadBack → IsSound (initial_setup_of Normal)
      → (t : Option Termination) (v : Variant) (start : Setup) → start.variant ≡ v → IsSound start
      → (last : List (List ℕ)) (rest : List ℕ)
      → read_on draws limit total (tagged true t (from_start (initial_setup_of v))) true
      (ended [] (start_lines_in v start ++ last) ++ rest) ≡ read_on draws limit total (tagged true t (from_start start))
      true (ended [] last ++ rest)
  start_read law initial t v start is sound last rest = by_variant v is
    where
      s : State
      s = from_start start

      shown : (v : Variant) → start.variant ≡ v
          → read_on draws limit total (tagged true t (from_start (initial_setup_of v)))
          true (ended [] (fen_lines start ++ last) ++ rest) ≡ read_on draws limit total (tagged true t s) true
          (ended [] last ++ rest)
      shown v is =
          line_read (tagged true t (from_start (initial_setup_of v))) (tagged true t s) true
          (tag_line (codes "FEN") (fen start)) (tag_line (codes "SetUp") (codes "1") ∷ last) rest _
          (fen_tag draws limit total law t (from_start (initial_setup_of v)) start sound (initial_variant v ∙ sym is))
          (line_read (tagged true t s) (tagged true t s) true (tag_line (codes "SetUp") (codes "1")) last rest _
          (plain_tag draws limit total true t s (codes "SetUp") (codes "1") refl refl refl refl) refl)

      by_test : start.variant ≡ Normal → (b : Bool) → is_initial start ≡ b
          → read_on draws limit total (tagged true t (from_start (initial_setup_of Normal))) true
          (ended [] (list_if (not b) (fen_lines start) ++ last) ++ rest)
          ≡ read_on draws limit total (tagged true t s) true
          (ended [] last ++ rest)
      by_test is true e =
          ap (λ p. read_on draws limit total (tagged true t (from_start p)) true (ended [] last ++ rest))
          (sym (initial_is law initial start is sound e))
      by_test is false e = shown Normal is

      by_variant : (v : Variant) → start.variant ≡ v
          → read_on draws limit total (tagged true t (from_start (initial_setup_of v))) true
          (ended [] (start_lines_in v start ++ last) ++ rest) ≡ read_on draws limit total (tagged true t s) true
          (ended [] last ++ rest)
      by_variant Normal is = by_test is (is_initial start) refl
      by_variant Fischerandom is = shown Fischerandom is

  -- the last tags, and the empty line
  last_read : (t : Option Termination) (u : Termination) (s : State) (v : Variant) (rest : List ℕ)
      → read_on draws limit total (tagged true t s) true (ended [] (last_lines v u ++ [] ∷ []) ++ rest)
      ≡ read_on draws limit total
      (tagged true (Some u) s) true rest
  last_read t u s Normal rest =
      line_read (tagged true t s) (tagged true (Some u) s) true (tag_line (codes "Termination") (termination_text u))
      ([] ∷ []) rest _ (termination_tag draws limit total t s u)
      (line_read (tagged true (Some u) s) (tagged true (Some u) s) true [] [] rest _
      (empty_line draws limit total (tagged true (Some u) s)) refl)
  last_read t u s Fischerandom rest =
      let variant : List ℕ = tag_line (codes "Variant") (codes "fischerandom") in
      line_read (tagged true t s) (tagged true (Some u) s) true (tag_line (codes "Termination") (termination_text u))
      (variant ∷ [] ∷ []) rest _ (termination_tag draws limit total t s u)
      (line_read (tagged true (Some u) s) (tagged true (Some u) s) true variant ([] ∷ []) rest _
      (plain_tag draws limit total true (Some u) s (codes "Variant") (codes "fischerandom") refl refl refl refl)
      (line_read (tagged true (Some u) s) (tagged true (Some u) s) true [] [] rest _
      (empty_line draws limit total (tagged true (Some u) s)) refl))

  -- the tags after the seven, and the empty line
  further_read : WrittenIsReadBack → IsSound (initial_setup_of Normal) → (start : Setup) (u : Termination)
      → IsSound start → (rest : List ℕ)
      → read_on draws limit total (tagged true None (from_start (initial_setup_of start.variant))) true
      (ended [] (further_lines start u ++ [] ∷ []) ++ rest) ≡ read_on draws limit total
      (tagged true (Some u) (from_start start)) true rest
  further_read law initial start u sound rest =
      ap (λ lines. read_on draws limit total (tagged true None (from_start (initial_setup_of start.variant))) true
      (ended [] lines ++ rest))
      (append_assoc (start_lines_in start.variant start) (last_lines start.variant u) ([] ∷ []))
      ∙ start_read law initial None start.variant start refl sound (last_lines start.variant u ++ [] ∷ []) rest
      ∙ last_read None u (from_start start) start.variant rest

  -- all tags
  tags_read : WrittenIsReadBack → IsSound (initial_setup_of Normal) → (tags : Tags) → AreTagTexts tags → (s : State)
      → IsSound s.start → (begins : Bool) (rest : List ℕ)
      → read_on draws limit total (nothing_read s.start.variant) begins
      (ended [] (tag_lines tags s ++ [] ∷ []) ++ rest) ≡ read_on draws limit total
      (tagged true (Some (termination_of tags.ended (outcome_now s))) (from_start s.start)) true rest
  tags_read law initial t texts s sound begins rest =
      let g : SoFar = tagged true None (from_start (initial_setup_of s.start.variant)) in
      let termination : Termination = termination_of t.ended (outcome_now s) in
      let last : List (List ℕ) = further_lines s.start termination ++ [] ∷ [] in
      let result : List ℕ = tag_line (codes "Result") (outcome_text (outcome_now s)) in
      let black : List ℕ = tag_line (codes "Black") t.black in
      let white : List ℕ = tag_line (codes "White") t.white in
      let round : List ℕ = tag_line (codes "Round") t.round in
      let date : List ℕ = tag_line (codes "Date") t.date in
      let site : List ℕ = tag_line (codes "Site") t.site in
      line_read (nothing_read s.start.variant) g begins (tag_line (codes "Event") t.event)
      (site ∷ date ∷ round ∷ white ∷ black ∷ result ∷ last) rest _
      (plain_tag draws limit total false None (from_start (initial_setup_of s.start.variant))
      (codes "Event") t.event refl
      refl refl (tag_text_in_line t.event texts.event))
      (line_read g g true site (date ∷ round ∷ white ∷ black ∷ result ∷ last) rest _
      (plain_tag draws limit total true None (from_start (initial_setup_of s.start.variant)) (codes "Site") t.site refl
      refl refl (tag_text_in_line t.site texts.site))
      (line_read g g true date (round ∷ white ∷ black ∷ result ∷ last) rest _
      (plain_tag draws limit total true None (from_start (initial_setup_of s.start.variant)) (codes "Date") t.date refl
      refl refl (tag_text_in_line t.date texts.date))
      (line_read g g true round (white ∷ black ∷ result ∷ last) rest _
      (plain_tag draws limit total true None (from_start (initial_setup_of s.start.variant))
      (codes "Round") t.round refl
      refl refl (tag_text_in_line t.round texts.round))
      (line_read g g true white (black ∷ result ∷ last) rest _
      (plain_tag draws limit total true None (from_start (initial_setup_of s.start.variant))
      (codes "White") t.white refl
      refl refl (tag_text_in_line t.white texts.white))
      (line_read g g true black (result ∷ last) rest _
      (plain_tag draws limit total true None (from_start (initial_setup_of s.start.variant))
      (codes "Black") t.black refl
      refl refl (tag_text_in_line t.black texts.black))
      (line_read g g true result last rest _
      (plain_tag draws limit total true None (from_start (initial_setup_of s.start.variant)) (codes "Result")
      (outcome_text (outcome_now s)) refl refl refl (outcome_in_line (outcome_now s)))
      (further_read law initial s.start termination sound rest)))))))

  -- ---- the text

  -- what is read of a whole text
  text_read : AfterIsSound → WrittenIsReadBack → IsSound (initial_setup_of Normal) → (tags : Tags) → AreTagTexts tags
      → (s : State) → IsPlayable (record { limit = limit; state = s }) → (begins : Bool) (rest : List ℕ)
      → read_on draws limit total (nothing_read s.start.variant) begins (pgn [] tags s ++ rest)
      ≡ ended_game (Some (termination_of tags.ended (outcome_now s)))
      (record { start = s.start; moves = s.moves; declared = None }) (outcome_now s)
      (total - length (outcome_text (outcome_now s) ++ 10 ∷ 10 ∷ rest) + length (outcome_text (outcome_now s)))
  text_read after_law law initial t texts s h begins rest =
      let o : Outcome = outcome_now s in
      let said : Option Termination = Some (termination_of t.ended o) in
      let moves : List ℕ = filled_from [] 0 (game_tokens s) in
      let r : GameRead = ended_game said (record { start = s.start; moves = s.moves; declared = None }) o
      (total - length (outcome_text o ++ 10 ∷ 10 ∷ rest) + length (outcome_text o)) in
      ap (λ text. read_on draws limit total (nothing_read s.start.variant) begins (text ++ rest))
      (pgn_filled [] t s (game_is_short (record { limit = limit; state = s }) h))
      ∙ ap (read_on draws limit total (nothing_read s.start.variant) begins)
      (grouped (ended [] (tag_lines t s ++ [] ∷ [])) moves rest)
      ∙ tags_read law initial t texts s h.start begins (moves ++ 10 ∷ rest)
      ∙ ap (λ ts. read_on draws limit total (read_so_far said s.start [] false) true (filled_from [] 0 ts ++ 10 ∷ rest))
      (game_numbered s)
      ∙ moves_read draws limit total after_law said s.start s.moves (record { few = h.limit; unended = h.unended })
      (outcome_text o) (10 ∷ rest) r
      (λ x b k. outcome_read draws limit total (read_so_far said s.start s.moves x) b k o (10 ∷ rest)) true s.start []
      s.moves refl refl h.start h.line false true 0

-- ---- its offset

-- a byte order mark begins with the byte 239, so a text that begins with another byte c has none
no_mark : (before : List ℕ) (c : ℕ) (rest : List ℕ) → eqb c 239 ≡ false
    → after_byte_order_mark (before ++ c ∷ rest) (length before) ≡ length before
no_mark [] c rest e = rw e refl
no_mark (b ∷ before) c rest e = let some : eqb (suc (length before)) 0 ≡ false = grind (arith, nat_tests) in
    rw some refl

-- the tokens of the whole text from that offset on are those of the part alone
tokens_after : (before text : List ℕ) → tokens_from (before ++ text) (length before)
    ≡ tokens_of (length text) (begins_line (before ++ text) (length before)) text
unfolding tokens_from
tokens_after before text =
    let whole : List ℕ = before ++ text in
    let fewer : length text ≤ length whole = omega (arith, length-append before text) in
    ap (tokens_of (length whole) (begins_line whole (length before))) (drop_at before text (length before) refl)
    ∙ enough (length whole) (length text) (begins_line whole (length before)) text fewer (omega arith)

-- the variant that a tag Variant names depends only on the tag's string
by_string : (o : Option (List ℕ × ℕ))
    → option_map_or (λ (tag : List ℕ × ℕ). variant_named tag.0) o Normal
    ≡ option_map_or variant_named (option_map (λ (tag : List ℕ × ℕ). tag.0) o) Normal
by_string None = refl
by_string (Some tag) = refl

-- the variant of a text is named by the last tag Variant before the moves
named : (ts : List (ℕ × Token))
    → tagged_variant (tag_section ts) ≡ option_map_or variant_named (text_from (codes "Variant") None ts) Normal
named ts = by_string (last_tag (codes "Variant") (tag_section ts))
    ∙ ap (λ o. option_map_or variant_named o Normal) (sym (text_is (codes "Variant") ts))

-- reading from the offset after `before` on
read_after : (draws : Bool) (limit : ℕ) (before text : List ℕ) (v : Variant)
    → after_byte_order_mark (before ++ text) (length before)
    ≡ length before
    → option_map_or variant_named
    (said_on (codes "Variant") None (begins_line (before ++ text) (length before)) text) Normal ≡ v
    → pgn_read draws limit (before ++ text) (length before)
    ≡ read_on draws limit (length (before ++ text)) (nothing_read v)
    (begins_line (before ++ text) (length before)) text
read_after draws limit before text v offset said =
    let whole : List ℕ = before ++ text in
    let tokens : List (ℕ × Token) = tokens_of (length text) (begins_line whole (length before)) text in
    reads_alike draws limit whole (length before)
    ∙ ap (λ at. tokens_read draws limit (length whole) (tokens_from whole at)) offset
    ∙ ap (tokens_read draws limit (length whole)) (tokens_after before text)
    ∙ ap (λ u. game_of draws limit (length whole) (nothing_read u) tokens) (named tokens ∙ said)

-- what the tag of a name says in a game's text is what was written
written_says : (name : List ℕ) (tags : Tags) → AreTagTexts tags → (s : State) → IsSound s.start
    → AreShort (game_tokens s) → (begins : Bool) (rest : List ℕ)
    → said_on name None begins (pgn [] tags s ++ rest) ≡ string_of name None (tags_of tags s)
written_says name t texts s sound short begins rest =
    ap (λ text. said_on name None begins (text ++ rest)) (pgn_filled [] t s short)
    ∙ ap (said_on name None begins)
    (grouped (ended [] (tag_lines t s ++ [] ∷ [])) (filled_from [] 0 (game_tokens s)) rest)
    ∙ text_says name t texts s sound begins rest

-- the variant that a game's text names
variant_is : (tags : Tags) → AreTagTexts tags → (s : State) → IsSound s.start → AreShort (game_tokens s)
    → (begins : Bool) (rest : List ℕ)
    → option_map_or variant_named (said_on (codes "Variant") None begins (pgn [] tags s ++ rest)) Normal
    ≡ s.start.variant
variant_is t texts s sound short begins rest =
    ap (λ o. option_map_or variant_named o Normal)
    (written_says (codes "Variant") t texts s sound short begins rest ∙ variant_string t s)
    ∙ by_variant s.start.variant
  where
    by_variant : (v : Variant) → option_map_or variant_named (variant_string_of v) Normal ≡ v
    by_variant Normal = refl
    by_variant Fischerandom = refl

-- a game's text begins with `[` (91)
first_bytes : (tags : Tags) (s : State) → pgn [] tags s ≡ 91 ∷ drop 1 (pgn [] tags s)
unfolding pgn
first_bytes tags s = refl

-- a text with an outcome and a line feed at its end is longer than the outcome by at least two bytes
longer : (a b : List ℕ) (n : ℕ) → n < length b → n + 2 ≤ length (a ++ b ++ 10 ∷ [])
longer a b n h = omega (arith, length-append (a ++ b) (10 ∷ []), length-append a b)

-- so is a game's text
pgn_long : (tags : Tags) (s : State) → AreShort (game_tokens s)
    → length (outcome_text (outcome_now s)) + 2 ≤ length (pgn [] tags s)
pgn_long tags s short =
    let t : List ℕ = outcome_text (outcome_now s) in
    rw (pgn_filled [] tags s short)
    (longer (ended [] (tag_lines tags s ++ [] ∷ [])) (filled_from [] 0 (game_tokens s)) (length t)
    (rw (game_numbered s) (filled_long 0 (numbered_moves true s.start s.moves) t (outcome_some (outcome_now s)))))

-- ---- the law

-- the outcome of a verdict, else of what was declared
abbrev outcome_by : Option Verdict → Option Declared → Outcome
outcome_by v d = option_map_or (λ (x : Declared). x.outcome) (option_or (option_map verdict_result v) d) Unfinished

-- an outcome that is declared is the game's outcome, if the board has no verdict
declared_again : (o : Outcome) → outcome_by None (declared_after false o) ≡ o
declared_again WhiteWins = refl
declared_again BlackWins = refl
declared_again Draw = refl
declared_again Unfinished = refl

-- the verdict is there again; where there is none, what the termination names is declared
same_outcome : (v : Option Verdict) (d : Option Declared) → outcome_by v (declared_after (is_some v) (outcome_by v d))
    ≡ outcome_by v d
same_outcome (Some v) d = refl
same_outcome None d = declared_again (outcome_by None d)

-- the law: what is read of a game's text, in any text, is the game
pub pgn_law : AfterIsSound → WrittenIsReadBack → IsSound (initial_setup_of Normal) → PgnIsReadBack
pgn_law after_law law initial draws limit tags s before rest texts h =
    let written : List ℕ = pgn [] tags s in
    let o : List ℕ = outcome_text (outcome_now s) in
    let short = game_is_short (record { limit = limit; state = s }) h in
    let total : ℕ = length (before ++ (written ++ rest)) in
    let offset : after_byte_order_mark (before ++ (written ++ rest)) (length before) ≡ length before =
    rw (first_bytes tags s) (no_mark before 91 (drop 1 written ++ rest) refl) in
    let is : pgn_read draws limit (before ++ written ++ rest) (length before)
    ≡ ended_game (Some (termination_of tags.ended (outcome_now s)))
    (record { start = s.start; moves = s.moves; declared = None }) (outcome_now s)
    (total - length (o ++ 10 ∷ 10 ∷ rest) + length o) =
    ap (λ text. pgn_read draws limit text (length before)) (append_assoc before written rest)
    ∙ read_after draws limit before (written ++ rest) s.start.variant offset
    (variant_is tags texts s h.start short (begins_line (before ++ (written ++ rest)) (length before)) rest)
    ∙ text_read draws limit total after_law law initial tags texts s h
    (begins_line (before ++ (written ++ rest)) (length before)) rest in
    subst (IsReadBack s (termination_of tags.ended (outcome_now s)) (length (before ++ written))) (sym is) (record {
      start = refl;
      moves = refl;
      outcome = same_outcome (verdict_now s) s.declared;
      offset = total - length (o ++ 10 ∷ 10 ∷ rest) + length o;
      answer = refl;
      two_before_end = omega (
        arith,
        length-append before (written ++ rest),
        length-append written rest,
        length-append before
            written,
        length-append o (10 ∷ 10 ∷ rest),
        pgn_long tags s short,
      );
    })

-- what the tag Result names, by its string
result_by_string : (total : ℕ) (o : Option (List ℕ × ℕ))
    → option_and_then (λ (tag : ResultTag). tag.outcome)
    (option_map (λ tag. record { outcome = outcome_of tag.0; offset = total - tag.1; len = length tag.0 }) o)
    ≡ option_and_then outcome_of (option_map (λ (tag : List ℕ × ℕ). tag.0) o)
result_by_string total None = refl
result_by_string total (Some tag) = refl

-- the tag Result names the outcome that was written in it
outcome_again : (o : Outcome) → outcome_of (escaped (outcome_text o)) ≡ Some o
outcome_again WhiteWins = refl
outcome_again BlackWins = refl
outcome_again Draw = refl
outcome_again Unfinished = refl

-- the law of the tag Result
pub result_law : ResultIsWritten
result_law limit tags s before rest texts h tokens split =
    let text : List ℕ = pgn [] tags s ++ rest in
    let whole : List ℕ = before ++ text in
    let grouping : before ++ pgn [] tags s ++ rest ≡ whole = append_assoc before (pgn [] tags s) rest in
    let offset : after_byte_order_mark whole (length before) ≡ length before =
    rw (first_bytes tags s) (no_mark before 91 (drop 1 (pgn [] tags s) ++ rest) refl) in
    let short = game_is_short (record { limit = limit; state = s }) h in
    let are : tokens ≡ tokens_of (length text) (begins_line whole (length before)) text =
    split_read (before ++ pgn [] tags s ++ rest) split
    ∙ ap (λ xs. tokens_from xs (after_byte_order_mark xs (length before))) grouping
    ∙ ap (tokens_from whole) offset ∙ tokens_after before text in
    result_by_string (length (before ++ pgn [] tags s ++ rest)) (last_tag (codes "Result") (tag_section tokens))
    ∙ ap (option_and_then outcome_of) (sym (text_is (codes "Result") tokens)
    ∙ ap (text_from (codes "Result") None) are
    ∙ written_says (codes "Result") tags texts s h.start short (begins_line whole (length before)) rest
    ∙ result_string tags s)
    ∙ outcome_again (outcome_now s)

-- the offset of a tag Variant, if its variant is unknown
abbrev if_unknown : ℕ → Bool → Option ℕ
if_unknown offset b = if b then None else Some offset

-- a variant that is known, by the string of its tag
known_by_string : (total : ℕ) (o : Option (List ℕ × ℕ))
    → option_map_or is_known_variant (option_map (λ (tag : List ℕ × ℕ). tag.0) o) true ≡ true
    → option_and_then (λ (tag : List ℕ × ℕ). if_unknown (total - tag.1) (is_known_variant tag.0)) o ≡ None
known_by_string total None known = refl
known_by_string total (Some tag) known = rw known refl

-- the variant that is written is known, or not named at all
known_again : (v : Variant) → option_map_or is_known_variant (variant_string_of v) true ≡ true
known_again Normal = refl
known_again Fischerandom = refl

-- the law of the tag Variant
pub variant_law : VariantIsWritten
variant_law limit tags s before rest texts h tokens split =
    let text : List ℕ = pgn [] tags s ++ rest in
    let whole : List ℕ = before ++ text in
    let grouping : before ++ pgn [] tags s ++ rest ≡ whole = append_assoc before (pgn [] tags s) rest in
    let offset : after_byte_order_mark whole (length before) ≡ length before =
    rw (first_bytes tags s) (no_mark before 91 (drop 1 (pgn [] tags s) ++ rest) refl) in
    let short = game_is_short (record { limit = limit; state = s }) h in
    let are : tokens ≡ tokens_of (length text) (begins_line whole (length before)) text =
    split_read (before ++ pgn [] tags s ++ rest) split
    ∙ ap (λ xs. tokens_from xs (after_byte_order_mark xs (length before))) grouping
    ∙ ap (tokens_from whole) offset ∙ tokens_after before text in
    known_by_string (length (before ++ pgn [] tags s ++ rest)) (last_tag (codes "Variant") (tag_section tokens))
    (ap (λ o. option_map_or is_known_variant o true) (sym (text_is (codes "Variant") tokens)
    ∙ ap (text_from (codes "Variant") None) are
    ∙ written_says (codes "Variant") tags texts s h.start short (begins_line whole (length before)) rest
    ∙ variant_string tags s)
    ∙ known_again s.start.variant)
