-- The steps of `read_pgn` need that a token is no move that the game plays (`IsLeft`). The first token where
-- `play_words` stopped is none (left_at): if a word begins there, which was not played, the token is just that word,
-- and any other token is no move. Nor is a token after which tags may come (tags_left), by its kind.
use Rattle.std.proofs.Common.{◌≡◌, ℕ, ◌<◌, ◌≤◌, ◌-◌, Bool, true, false, List, [], ◌∷◌, ◌++◌, length, take, drop, refl, sym, ap, subst, ◌∙◌, arith}
use Rattle.std.specs.List.{list_all, take_while}
use Rattle.std.proofs.{lemmas.Bool.and_parts, lemmas.List.take_rest}
use Rattle.chess_game.specs.Game.{Seen}
use Rattle.chess_pgn.specs.{declared.word_kind.WordKind.WordKind, laws.WordKinds.word_kind, ties.GameSteps.IsNoMove, ties.GameSteps.IsLeft, ties.GameSteps.StopsAt}
use Rattle.pgn_tokens.specs.LastTags.{may_precede_tags}
use Rattle.chess_pgn.specs.declared.word_kind.WordKind.TheVariants.{End, Number, Marks, Move}
use Rattle.pgn_tokens.specs.Tokens.{Token, Skip, Tag, Word, Bad_tag, Unclosed_comment, Unclosed_variation, Bad, is_word_byte, token_at, begins_line, tokens_from}
use Rattle.pgn_tokens.specs.shared.Kinds.{Kind, Blank, Line, Comment, Nag, Variation, Tag_pair, Asterisk, Symbol, IsOf, token_of}
use Rattle.chess_pgn.proofs.PgnWords.{are_marks, marks_by_kind}
use Rattle.pgn_tokens.proofs.shared.Tokens.{no_token, token_more, begins_word, TokenSays, known, faulty, is_fault, token_says}

-- a word that may be a move isn't empty
pub move_has_bytes : (word : List ℕ) → Move ≡ word_kind word → 0 < length word
move_has_bytes [] h = cc
move_has_bytes (c ∷ word) h = omega arith

-- ---- a token after which more tags may come

-- marks such as `!?` are no move
marks_left : (game : Seen) (word : List ℕ) (kind : WordKind) → are_marks kind ≡ true → IsNoMove game word kind
marks_left game word (End o) h = tt
marks_left game word Number h = tt
marks_left game word Marks h = tt
marks_left game word Move h = absurd (cc)

-- so a token after which tags may come is no move
pub tags_left : (game : Seen) (t : Token) → may_precede_tags t ≡ true → IsLeft game t
tags_left game Skip h = tt
tags_left game (Tag name text string) h = tt
tags_left game (Word word) h = marks_left game word (word_kind word) (sym (marks_by_kind word) ∙ h)
tags_left game Bad_tag h = tt
tags_left game (Unclosed_comment brace) h = tt
tags_left game Unclosed_variation h = tt
tags_left game Bad h = tt

-- ---- the token after the words that were taken

-- what can't be read is no move
fault_left : (game : Seen) (t : Token) → is_fault t ≡ true → IsLeft game t
fault_left game Skip h = tt
fault_left game (Tag name text string) h = tt
fault_left game (Word word) h = absurd (cc)
fault_left game Bad_tag h = tt
fault_left game (Unclosed_comment brace) h = tt
fault_left game Unclosed_variation h = tt
fault_left game Bad h = tt

-- a token that begins with no byte of a word: of words only `*`
other_left : (game : Seen) (b : Bool) (c : ℕ) (rest : List ℕ) → is_word_byte c ≡ false
    → IsLeft game (token_at b c rest).0
other_left game b c rest begins = by_says (token_at b c rest) (token_says b c rest)
  where
    by_kind : (kind : Kind) (front r : List ℕ) → c ∷ rest ≡ front ++ r → IsOf b kind front
        → IsLeft game (token_of kind front (length r))
    by_kind Blank front r same h = tt
    by_kind Line front r same h = tt
    by_kind Comment front r same h = tt
    by_kind Nag front r same h = tt
    by_kind Variation front r same h = tt
    by_kind (Tag_pair name string closing) front r same h = tt
    by_kind Asterisk front r same h = subst (λ w. IsLeft game (Word w)) (sym h) tt
    by_kind Symbol [] r same h = absurd (omega (arith, h.0))
    by_kind Symbol (d ∷ ds) r same h =
        let first : c ≡ d = cc in
        let yes : is_word_byte d ≡ true = (and_parts (is_word_byte d) (list_all is_word_byte ds) h.1).0 in
        let both : false ≡ true = sym begins ∙ ap is_word_byte first ∙ yes in
        absurd (cc)

    by_says : (t : Token × List ℕ) → TokenSays b (c ∷ rest) t → IsLeft game t.0
    by_says t (known kind front r same long) = by_kind kind front r same long.is
    by_says t (faulty fault is_one h) = fault_left game fault is_one

-- if the word at the text's front is no move that the game plays, the first token is none
first_left : (game : Seen) (b : Bool) (c : ℕ) (rest : List ℕ)
    → IsLeft game (Word (take_while is_word_byte (c ∷ rest))) → IsLeft game (token_at b c rest).0
first_left game b c rest left = by_test (is_word_byte c) refl
  where
    by_test : (t : Bool) → is_word_byte c ≡ t → IsLeft game (token_at b c rest).0
    by_test true e = subst (λ (t : Token × List ℕ). IsLeft game t.0) (sym (begins_word b c rest e)) left
    by_test false e = other_left game b c rest e

-- with its text as code meets it: the word there, if there is one, was not taken
pub left_at : (game : Seen) (text : List ℕ) (at : ℕ) (xs word : List ℕ) → at ≤ length text
    → xs ≡ take (length text - at) (drop at text) → word ≡ take_while is_word_byte xs
    → IsNoMove game word (word_kind word) → StopsAt game (tokens_from text at)
left_at game text at xs word h is taken left = by_rest (drop at text) refl
  where
    by_rest : (rest : List ℕ) → drop at text ≡ rest → StopsAt game (tokens_from text at)
    by_rest [] e = subst (StopsAt game) (sym (no_token text at (omega (arith, ap length e)))) tt
    by_rest (c ∷ rest) e =
        let same : word ≡ take_while is_word_byte (c ∷ rest) =
        taken ∙ ap (take_while is_word_byte) (is ∙ take_rest text at ∙ e) in
        subst (StopsAt game) (sym (token_more text at c rest e h))
        (first_left game (begins_line text at) c rest (subst (λ w. IsLeft game (Word w)) same left))
