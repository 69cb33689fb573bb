-- Small texts, most of games without a move, and what each is read as (PGN standard of 1994, sections 5 to 7, 8.1, 8.2
-- and 9.8.1).
use Rattle.std.specs.Prelude.{◌≡◌, ℕ, true, List, [], ◌∷◌, codes, length, map, replicate, Option, Some, None, Ok, Err}
use Prim.Native.String.{String as Text}
use Rattle.byte_devices.specs.Bytes.{tab}
use Rattle.chess_base.specs.Initial.{initial_setup_of}
use Rattle.chess_base.specs.declared.man.Variant.TheVariants.{Normal, Fischerandom}
use Rattle.chess_base.specs.declared.fen_fault.FenFault.TheVariants.{Counters, Fields}
use Rattle.chess_base.specs.declared.setup.Setup.{Setup}
use Rattle.chess_game.specs.declared.results.Outcome.TheVariants.{WhiteWins, BlackWins, Draw, Unfinished}
use Rattle.chess_game.specs.declared.verdicts.Verdict.TheVariants.{WhiteMates, BlackMates, Stalemate, InsufficientMaterial, FivefoldRepetition, SeventyFiveMoves}
use Rattle.chess_pgn.specs.GameRead.{GameRead, known_variant, not_of_2014, pgn_read}
use Rattle.chess_pgn.specs.ResultTags.{result_tag_of}
use Rattle.chess_pgn.specs.UnknownVariants.{unknown_variant_in}
use Rattle.chess_pgn.specs.Variations.{variation_fault, variations_fault}
use Rattle.chess_pgn.specs.declared.read.PgnEnd.{PgnEnd}
use Rattle.chess_pgn.specs.declared.read.PgnFaultKind.{PgnFaultKind}
use Rattle.chess_pgn.specs.declared.read.PgnFaultKind.TheVariants.{BadTag, BadFen, BadToken, AfterEnd, TooLong, UnclosedComment, UnclosedVariation, NoResult}
use Rattle.chess_pgn.specs.declared.tagged_result.ResultTag.{ResultTag}
use Rattle.pgn_tokens.specs.GameTags.{TagPair, game_tags_of}
use Rattle.pgn_tokens.specs.Seen.{IsNextToken, SkipsTo}
use Rattle.pgn_tokens.specs.TagsPassed.{IsAfterTags}
use Rattle.pgn_tokens.specs.Tokens.{Skip, Word, Bad, tokens_from}
use Rattle.pgn_tokens.specs.declared.token.TokenFault.TheVariants as token_faults
use Rattle.pgn_writer.specs.Outcomes.{outcome_of}
use Rattle.pgn_writer.specs.Terminations.{termination_named}
use Rattle.pgn_writer.specs.declared.termination.Termination.TheVariants.{TimeForfeit}
use Rattle.pgn_writer.specs.declared.termination.Termination.TheVariants as how

-- what is read of a text from its first byte on, as a game of at most one half-move
abbrev pub read_of : Text → GameRead
read_of text = pgn_read true 1 (codes text) 0

-- what reading returns of a game that ends with the marker `*`, if `end` is the offset right after it, and no tag names
-- its termination
abbrev pub unfinished_at : ℕ → PgnEnd
unfinished_at end = record { outcome = Unfinished; termination = None; offset = end }

-- the text is read as a game without moves and with the marker `*`, which ends at this offset and declares nothing
abbrev pub IsEmptyGame : Text → ℕ → Type 0
IsEmptyGame text end = ((read_of text).state.moves ≡ []) × ((read_of text).state.declared ≡ None)
    × ((read_of text).answer ≡ Ok (Some (unfinished_at end)))

-- the text is read as a game with the marker `*`, which ends at this offset
abbrev pub EndsAt : Text → ℕ → Type 0
EndsAt text end = (read_of text).answer ≡ Ok (Some (unfinished_at end))

-- the first fault of the text is of this kind and at this offset
abbrev pub FailsAt : Text → PgnFaultKind → ℕ → Type 0
FailsAt text kind at = (read_of text).answer ≡ Err (record { kind = kind; offset = at })

-- ---- strings (section 7)

-- where the string of a tag ends
pub record StringsEnd : Type 0 where
  pub empty : EndsAt "[A \"\"]*" 7
  -- not at a quote after a backslash
  pub quote : EndsAt "[A \"\\\"\"]*" 9
  -- at a quote after two backslashes, but not at one after three
  pub backslash : EndsAt "[A \"\\\\\"]*" 9
  pub both : EndsAt "[A \"\\\\\\\"\"]*" 11
  -- not at bytes that mean something elsewhere
  pub others : EndsAt "[A \"%[]{(;\"]*" 13
  -- not at a line's end, also after a backslash: there the tag can't be read
  pub line_end : FailsAt "[A \"b\n\"]*" BadTag 0
  pub kept_line_end : FailsAt "[A \"b\\\n\"]*" BadTag 0
  pub unclosed_line : FailsAt "[A \"b\n]*" BadTag 0
  -- nor can one without a closing quote, or with one that a backslash keeps
  pub unclosed : FailsAt "[A \"b]*" BadTag 0
  pub kept_quote : FailsAt "[A \"\\\"]*" BadTag 0
  -- a tag's text keeps its backslashes: this names no termination
  pub backslash_stays : EndsAt "[Termination \"time\\ forfeit\"]*" 30
  -- a FEN's fault is right after its own quote
  pub after_quote : FailsAt "[A \"\\\"\"][FEN \"x\"]*" (BadFen Fields) 14
  -- among moves there are no strings
  pub outside : FailsAt "12 \"*\"" BadToken 3

-- ---- `%` lines (section 6)

-- where a `%` skips the rest of its line, and where it doesn't
pub record PercentLinesAreSkipped : Type 0 where
  -- in each line that it begins
  pub later : EndsAt "12\n%1-0\n*" 9
  pub both : EndsAt "%0-1\n%1-0\n*" 11
  pub to_end : (read_of "%*").answer ≡ Ok None
  pub in_line : FailsAt "12 %\n*" BadToken 3
  pub after_blank : FailsAt " %\n*" BadToken 1
  -- a line begins after a line feed, not after a carriage return alone or a comment
  pub after_return : FailsAt "\r%\n*" BadToken 1
  pub after_comment : FailsAt "{\n}%\n*" BadToken 3
  -- in a comment, and within a line of a variation, it skips nothing
  pub in_comment : EndsAt "{\n%}*" 5
  pub in_variation : EndsAt "(%)*" 4
  pub return_in_variation : EndsAt "(\r%)*" 5
  -- in a tag only where it begins a line
  pub in_tag : EndsAt "[A\n%]\n\"b\"]*" 11
  pub in_line_of_tag : FailsAt "[A %\n\"b\"]*" BadTag 0
  pub after_bracket : FailsAt "[%\nA \"b\"]*" BadTag 0
  pub return_in_tag : FailsAt "[A\r%\n\"b\"]*" BadTag 0
  -- reading from an offset begins a line only where one begins
  pub second : (pgn_read true 1 (codes "*\n%1-0\n*") 2).answer ≡ Ok (Some (unfinished_at 8))
  pub second_in_line : (pgn_read true 1 (codes "*%\n*") 1).answer ≡ Err (record { kind = BadToken; offset = 1 })
  -- a byte order mark is skipped, and begins no line
  pub order_mark : (pgn_read true 1 (239 ∷ 187 ∷ 191 ∷ codes "*") 0).answer ≡ Ok (Some (unfinished_at 4))
  pub after_order_mark : (pgn_read true 1 (239 ∷ 187 ∷ 191 ∷ codes "%\n*") 0).answer
      ≡ Err (record { kind = BadToken; offset = 3 })

-- ---- other tokens (sections 5, 7 and 8.2)

-- where other tokens end
pub record TokensEnd : Type 0 where
  pub white_space : (pgn_read true 1 (tab ∷ codes "\r\n .*") 0).answer ≡ Ok (Some (unfinished_at 6))
  -- a comment at its first `}`
  pub brace_in_comment : EndsAt "{{}*" 4
  pub semicolon_in_comment : EndsAt "{;}*" 4
  -- a `;` comment with its line
  pub brace_in_line : EndsAt ";{\n*" 4
  -- a variation at its own `)`, not at one in a comment
  pub nested : EndsAt "((1-0)0-1)*" 11
  pub comment_inside : EndsAt "({)})*" 6
  -- what isn't closed; an unclosed comment is the fault even in a variation
  pub unclosed_comment : FailsAt "12 {*" UnclosedComment 3
  pub unclosed_variation : FailsAt "12 (a(b)" UnclosedVariation 3
  pub unclosed_inside : FailsAt "12 (a({)" UnclosedComment 6
  -- a glyph after its digits, maybe none
  pub no_digits : EndsAt "$*" 2
  pub glyph : tokens_from (codes "$14a") 0 ≡ (4, Skip) ∷ (1, Word (codes "a")) ∷ []
  -- a word after the last byte that may be in one; `*` is a word by itself
  pub word : tokens_from (codes "aZ09_+#=-/!?:*") 0 ≡ (14, Word (codes "aZ09_+#=-/!?:")) ∷ (1, Word (codes "*")) ∷ []
  pub draw : (read_of "1/2-1/2").answer ≡ Ok (Some (record { outcome = Draw; termination = None; offset = 7 }))
  pub lost : (read_of "0-1").answer ≡ Ok (Some (record { outcome = BlackWins; termination = None; offset = 3 }))
  pub skips : SkipsTo (codes ". e4") 0 2
  -- the next token: none is left, or it can't be read
  pub none_next : IsNextToken [] 0 (Ok None)
  pub bad_tag_next : IsNextToken (codes "12[") 2 (Err token_faults.BadTag)
  pub unclosed_next : IsNextToken (codes "12 {a") 3 (Err (token_faults.UnclosedComment 2))
  -- no token begins with one of these; 11 is a vertical tab, 12 a form feed
  pub no_token : map (λ c. tokens_from (c ∷ []) 0) (11 ∷ 12 ∷ codes ")}]<>,@~'") ≡ replicate 11 ((1, Bad) ∷ [])

-- ---- tags (section 8.1)

-- the tag of this name with this text, which begins at this offset
abbrev pub tag_found : Text → Text → ℕ → TagPair
tag_found name text offset = record { name = codes name; text = codes text; offset = offset }

-- two tags, a number, and the tag of the next game
abbrev pub two_tags : List ℕ
two_tags = codes "[A \"b\"][C \"d\"]12[E \"f\"]*"

-- what is a tag of a game, and which of its tags count
pub record TagsAreFound : Type 0 where
  -- lines may end in a tag, also with a carriage return alone
  pub gaps : EndsAt "[ A\n\"b\"\n]*" 10
  pub returns : EndsAt "[\rA\r\"b\"\r]*" 10
  -- a name has letters, digits and `_`, and nothing else
  pub name : EndsAt "[A_1 \"b\"]*" 10
  pub hyphen : FailsAt "[A-1 \"b\"]*" BadTag 0
  -- a tag without a name, or one that can't be read after others, is the fault
  pub no_name : FailsAt "[\"b\"]*" BadTag 0
  pub second_bad : FailsAt "[A \"b\"][A]*" BadTag 7
  pub after_marks : EndsAt "!?[A \"b\"]*" 10
  -- after a number a tag, even a bad one, is the next game's
  pub late : FailsAt "12[A \"b\"]*" NoResult 2
  pub late_bad : FailsAt "12[*" NoResult 2
  -- so a game's own tags are those before the number, in order, each with the offset of its text
  pub in_order : game_tags_of (length two_tags) (tokens_from two_tags 0)
      ≡ tag_found "A" "b" 4 ∷ tag_found "C" "d" 11 ∷ []
  pub passed : IsAfterTags two_tags 0 14
  -- marks and comments are no game, but a tag is one without a result
  pub only_marks : (read_of "!? {a}").answer ≡ Ok None
  pub only_tag : FailsAt "[A \"b\"]" NoResult 7
  -- of several tags with a name the last counts, also if it names nothing
  pub last_known : (read_of "[Termination \"x\"][Termination \"time forfeit\"]*").answer
      ≡ Ok (Some (record { outcome = Unfinished; termination = Some TimeForfeit; offset = 46 }))
  pub last_unknown : EndsAt "[Termination \"time forfeit\"][Termination \"x\"]*" 46
  -- but the first FEN that can't be read is the fault
  pub first_bad_fen : FailsAt "[FEN \"x\"][FEN \"y\"]*" (BadFen Fields) 6
  -- a FEN is read by the tag Variant: only in Chess960 is `A` a right, so the counter is the fault
  pub by_variant : FailsAt "[Variant \"Chess960\"][FEN \"8/8/8/8/8/8/8/8 w A - x 1\"]*" (BadFen Counters) 26
  pub small_name : EndsAt "[fen \"x\"]*" 10

-- ---- names (sections 8.1.1.7, 8.2.6 and 9.8.1)

-- the offset of the text of the last tag Variant, if it names no known variant
abbrev pub unknown_at : Text → Option ℕ
unknown_at text = unknown_variant_in (length (codes text)) (tokens_from (codes text) 0)

-- what the last tag Result of the text says
abbrev pub result_tag : Text → Option ResultTag
result_tag text = result_tag_of (length (codes text)) (tokens_from (codes text) 0)

-- what the texts of tags and words name
pub record NamesAreKnown : Type 0 where
  pub normal : map known_variant
      (codes "normal" ∷ codes "Standard" ∷ codes "CHESS" ∷ codes "Classical" ∷ codes "From Position" ∷ [])
      ≡ replicate 5 (Some Normal)
  pub chess960 : map known_variant (codes "fischerandom" ∷ codes "Fischerrandom" ∷ codes "CHESS960" ∷ [])
      ≡ replicate 3 (Some Fischerandom)
  pub other_variants : map known_variant (codes "Atomic" ∷ codes "chess 960" ∷ [] ∷ []) ≡ replicate 3 None
  -- the fault of an unknown name is where the tag's text begins
  pub atomic : unknown_at "[Variant \"Atomic\"]*" ≡ Some 10
  pub standard : unknown_at "[Variant \"Standard\"]*" ≡ None
  pub terminations : map termination_named (codes "Abandoned" ∷ codes "adjudication" ∷ codes "death"
      ∷ codes "emergency" ∷ codes "NORMAL" ∷ codes "rules infraction" ∷ codes "time forfeit" ∷ codes "unterminated"
      ∷ codes "lost on time" ∷ [])
      ≡ Some how.Abandoned ∷ Some how.Adjudication ∷ Some how.Death
      ∷ Some how.Emergency ∷ Some how.Normal ∷ Some how.RulesInfraction
      ∷ Some how.TimeForfeit ∷ Some how.Unterminated ∷ None ∷ []
  pub outcomes : map outcome_of (codes "1-0" ∷ codes "0-1" ∷ codes "1/2-1/2" ∷ codes "*" ∷ codes "1/2" ∷ codes "0-0"
      ∷ []) ≡ Some WhiteWins ∷ Some BlackWins ∷ Some Draw ∷ Some Unfinished ∷ None ∷ None ∷ []
  pub lost : result_tag "[Result \"0-1\"]*" ≡ Some (record { outcome = Some BlackWins; offset = 9; len = 3 })
  pub no_outcome : result_tag "[Result \"lost\"]*" ≡ Some (record { outcome = None; offset = 9; len = 4 })
  -- only fivefold repetition and the 75-move rule are draws of 2014
  pub of_2014 : map not_of_2014
      (WhiteMates ∷ BlackMates ∷ Stalemate ∷ InsufficientMaterial ∷ FivefoldRepetition ∷ SeventyFiveMoves ∷ [])
      ≡ Some WhiteMates ∷ Some BlackMates ∷ Some Stalemate ∷ Some InsufficientMaterial ∷ None ∷ None ∷ []

-- ---- all

-- what is read of these texts
pub record EmptyGamesAreRead : Type 0 where
  -- a number and its dots, as before a move of Black
  pub number : IsEmptyGame "12... *" 7
  -- moves and results that are skipped
  pub semicolon : IsEmptyGame "; 1. e4 1-0\n*" 13
  pub percent : IsEmptyGame "%1. e4 1-0\n*" 12
  pub braces : IsEmptyGame "{1. e4 1-0}*" 12
  pub variation : IsEmptyGame "(1. e4 1-0)*" 12
  -- a `)` in a comment or `%` line doesn't end the variation around it
  pub semicolon_inside : IsEmptyGame "(;)\n)*" 6
  pub percent_inside : IsEmptyGame "(\n%)\n)*" 7
  pub glyph : IsEmptyGame "$4 *" 4
  pub marks : IsEmptyGame "!? *" 4
  -- a number alone is a game without a result
  pub no_result : (read_of "12...").answer ≡ Err (record { kind = NoResult; offset = 5 })
  -- another marker than `*` is declared, without a comment
  pub won : (read_of "1-0").state.declared ≡ Some (record { outcome = WhiteWins; comment = [] })
  pub lost : (read_of "0-1").state.declared ≡ Some (record { outcome = BlackWins; comment = [] })
  pub drawn : (read_of "1/2-1/2").state.declared ≡ Some (record { outcome = Draw; comment = [] })
  -- where variations are read, one before the first move is a fault
  pub no_move_before : variations_fault tokens_from (codes "1. (e4) *") (initial_setup_of Normal) 0
      ≡ Some (record { kind = BadToken; offset = 3 })
  -- the game's own tags are no fault
  pub tag_before : variations_fault tokens_from (codes "[A \"b\"] (e4) *") (initial_setup_of Normal) 0
      ≡ Some (record { kind = BadToken; offset = 8 })
  -- a variation is a fault where no more may be nested
  pub too_deep : (p : Setup) → variation_fault tokens_from 0 (codes "(e4)") p 0
      ≡ Some (record { kind = TooLong; offset = 0 })
  -- a tag's value may be in capital or small letters
  pub variant : (read_of "[Variant \"Chess960\"] *").state.start ≡ initial_setup_of Fischerandom
  pub termination : (read_of "[Termination \"Time forfeit\"] *").answer
      ≡ Ok (Some (record { outcome = Unfinished; termination = Some TimeForfeit; offset = 30 }))
  -- after a mate a word is a move after the end, not an illegal one
  pub after_mate : (read_of "[FEN \"7k/6Q1/6K1/8/8/8/8/8 b - - 0 1\"] O-O").answer
      ≡ Err (record { kind = AfterEnd; offset = 39 })
  pub strings : StringsEnd
  pub percent_lines : PercentLinesAreSkipped
  pub tokens : TokensEnd
  pub tags : TagsAreFound
  pub names : NamesAreKnown
