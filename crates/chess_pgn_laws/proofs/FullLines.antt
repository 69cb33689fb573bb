-- Tokens put into lines: the lines hold the tokens in order, a line has at most 79 bytes, and would have more with the
-- next line's first token (are_filled), by induction on the tokens. No other lines are so (only_filled, from only_lines
-- of pgn_writer). So a game's text that is written has its moves in such lines (written).
use Rattle.std.proofs.Common.{◌≡◌, ℕ, ◌<◌, ◌≤◌, Bool, true, false, cond, leb, List, [], ◌∷◌, ◌++◌, length, map, refl, sym, ap, subst, ◌∙◌, append_assoc, arith, flat_map, leb-true, length-append}
use Rattle.std.proofs.lemmas.Bool.Decides.{nat_tests}
use Rattle.chess_game.specs.Game.{State, IsPlayable}
use Rattle.pgn_writer.specs.{declared.tags.Tags.Tags, GameText.tag_lines, GameText.game_tokens, GameText.pgn, Written.ended, Written.lines_of, PgnText.line_text, PgnText.AreFullLines, PgnText.IsPgn, laws.Layout.AreShort, laws.Layout.AreFilled, shared.Lines.lines_from}
use Rattle.pgn_writer.proofs.{shared.Lines.line_text-push, shared.Lines.lines_are, shared.Lines.only_lines, shared.GameTexts.game_is_short}

-- ---- the lines as lists of tokens

-- the line that is begun with these tokens, and the lines after it
abbrev pub grouped : List (List ℕ) → List (List ℕ) → List (List (List ℕ))
grouped line [] = line ∷ []
grouped line (t ∷ ts) =
    cond (leb (length (line_text (line ++ t ∷ []))) 79) (grouped (line ++ t ∷ []) ts) (line ∷ grouped (t ∷ []) ts)

-- their texts are the lines
pub grouped_texts : (u : List ℕ) (us ts : List (List ℕ))
    → map line_text (grouped (u ∷ us) ts) ≡ lines_from (line_text (u ∷ us)) ts
grouped_texts u us [] = refl
grouped_texts u us (t ∷ ts) =
    subst (λ (line : List ℕ). map line_text (grouped (u ∷ us) (t ∷ ts))
    ≡ cond (leb (length line) 79) (lines_from line ts) (line_text (u ∷ us) ∷ lines_from t ts)) (line_text-push u us t)
    (by_test (leb (length (line_text (u ∷ us ++ t ∷ []))) 79) (grouped_texts u (us ++ t ∷ []) ts)
    (grouped_texts t [] ts))
  where
    by_test : (b : Bool)
        → map line_text (grouped (u ∷ us ++ t ∷ []) ts) ≡ lines_from (line_text (u ∷ us ++ t ∷ [])) ts
        → map line_text (grouped (t ∷ []) ts) ≡ lines_from t ts
        → map line_text (cond b (grouped (u ∷ us ++ t ∷ []) ts) ((u ∷ us) ∷ grouped (t ∷ []) ts))
        ≡ cond b (lines_from (line_text (u ∷ us ++ t ∷ [])) ts) (line_text (u ∷ us) ∷ lines_from t ts)
    by_test true here next = here
    by_test false here next = ap (λ xs. line_text (u ∷ us) ∷ xs) next

-- they hold the tokens
pub grouped_all : (line ts : List (List ℕ)) → flat_map (λ l. l) (grouped line ts) ≡ line ++ ts
grouped_all line [] = refl
grouped_all line (t ∷ ts) = by_test (leb (length (line_text (line ++ t ∷ []))) 79)
    (grouped_all (line ++ t ∷ []) ts ∙ append_assoc line (t ∷ []) ts) (ap (λ xs. line ++ xs) (grouped_all (t ∷ []) ts))
  where
    by_test : (b : Bool) → flat_map (λ l. l) (grouped (line ++ t ∷ []) ts) ≡ line ++ t ∷ ts
        → line ++ flat_map (λ l. l) (grouped (t ∷ []) ts) ≡ line ++ t ∷ ts
        → flat_map (λ l. l) (cond b (grouped (line ++ t ∷ []) ts) (line ∷ grouped (t ∷ []) ts)) ≡ line ++ t ∷ ts
    by_test true here next = here
    by_test false here next = next

-- ---- they are full

-- the first line begins with the first token
grouped_first : (u : List ℕ) (us ts : List (List ℕ)) (token : List ℕ) (rest : List (List ℕ))
    (after : List (List (List ℕ))) → grouped (u ∷ us) ts ≡ (token ∷ rest) ∷ after → token ≡ u
grouped_first u us [] token rest after is = cc
grouped_first u us (t ∷ ts) token rest after is = by_test (leb (length (line_text (u ∷ us ++ t ∷ []))) 79) is
    (grouped_first u (us ++ t ∷ []) ts token rest after)
  where
    by_test : (b : Bool)
        → cond b (grouped (u ∷ us ++ t ∷ []) ts) ((u ∷ us) ∷ grouped (t ∷ []) ts) ≡ (token ∷ rest) ∷ after
        → (grouped (u ∷ us ++ t ∷ []) ts ≡ (token ∷ rest) ∷ after → token ≡ u) → token ≡ u
    by_test true is here = here is
    by_test false is here = cc

-- fewer than two lines have no line with a next one
no_lines : {A : Type 0} (lines before after : List (List (List ℕ))) (line next : List (List ℕ)) → length lines < 2
    → lines ≡ before ++ line ∷ next ∷ after → A
no_lines lines before after line next few is =
    absurd (omega (arith, few, ap length is, length-append before (line ∷ next ∷ after)))

-- equal lists of lines have equal rests
same_rest : (a b : List (List ℕ)) (xs ys : List (List (List ℕ))) → a ∷ xs ≡ b ∷ ys → xs ≡ ys
same_rest a b xs ys is = cc

-- a line that has no room for the next token, and full lines from that on
pub full_cons : (line : List (List ℕ)) (t : List ℕ) (ts : List (List ℕ)) → 0 < length line
    → length (line_text line) ≤ 79 → 79 < length (line_text (line ++ t ∷ [])) → AreFullLines (grouped (t ∷ []) ts)
    → AreFullLines (line ∷ grouped (t ∷ []) ts)
full_cons line t ts some short over more = record {
  some = (some, more.some);
  short = (short, more.short);
  full = by_before;
}
  where
    by_before : (before after : List (List (List ℕ))) (l rest : List (List ℕ)) (token : List ℕ)
        → line ∷ grouped (t ∷ []) ts ≡ before ++ l ∷ (token ∷ rest) ∷ after
        → 79 < length (line_text (l ++ token ∷ []))
    by_before [] after l rest token is =
        let same : line ≡ l = cc in
        let first : token ≡ t = grouped_first t [] ts token rest after
        (same_rest line l (grouped (t ∷ []) ts) ((token ∷ rest) ∷ after) is) in
        subst (λ xs. 79 < length (line_text (xs ++ token ∷ []))) same
        (subst (λ x. 79 < length (line_text (line ++ x ∷ []))) (sym first) over)
    by_before (b ∷ before) after l rest token is = more.full before after l rest token
        (same_rest line b (grouped (t ∷ []) ts) (before ++ l ∷ (token ∷ rest) ∷ after) is)

-- no lines are full lines
pub full_none : AreFullLines []
full_none = record {
  some = tt;
  short = tt;
  full = λ before after line rest token is. no_lines [] before after line (token ∷ rest) (omega arith) is;
}

-- lines of short tokens are full: by induction over the tokens that are left
pub grouped_full : (u : List ℕ) (us ts : List (List ℕ)) → length (line_text (u ∷ us)) ≤ 79 → AreShort ts
    → AreFullLines (grouped (u ∷ us) ts)
grouped_full u us [] h short = record {
  some = (omega arith, tt);
  short = (h, tt);
  full = λ before after line rest token is.
      no_lines ((u ∷ us) ∷ []) before after line (token ∷ rest) (omega arith) is;
}
grouped_full u us (t ∷ ts) h short = by_test (leb (length (line_text (u ∷ us ++ t ∷ []))) 79) refl
    (λ k. grouped_full u (us ++ t ∷ []) ts k short.1) (grouped_full t [] ts short.0.1 short.1)
  where
    by_test : (b : Bool) → leb (length (line_text (u ∷ us ++ t ∷ []))) 79 ≡ b
        → (length (line_text (u ∷ us ++ t ∷ [])) ≤ 79 → AreFullLines (grouped (u ∷ us ++ t ∷ []) ts))
        → AreFullLines (grouped (t ∷ []) ts)
        → AreFullLines (cond b (grouped (u ∷ us ++ t ∷ []) ts) ((u ∷ us) ∷ grouped (t ∷ []) ts))
    by_test true e here next = here (leb-true _ _ e)
    by_test false e here next = full_cons (u ∷ us) t ts (omega arith) h (grind (arith, nat_tests, e)) next

-- ---- the law of short tokens

pub are_filled : (tokens : List (List ℕ)) → AreShort tokens → AreFilled tokens (lines_of tokens)
are_filled [] short = record { lines = []; full = full_none; all = refl; are = refl }
are_filled (u ∷ us) short = record {
  lines = grouped (u ∷ []) us;
  full = grouped_full u [] us short.0.1 short.1;
  all = grouped_all (u ∷ []) us;
  are = lines_are (u ∷ us) ∙ sym (grouped_texts u [] us);
}

pub only_filled : (tokens texts : List (List ℕ)) → AreFilled tokens texts → texts ≡ lines_of tokens
only_filled tokens texts h = h.are ∙ only_lines h.lines h.full ∙ ap lines_of h.all

-- ---- a game's text

pub written : (prefix : List ℕ) (t : Tags) (limit : ℕ) (s : State)
    → IsPlayable (record { limit = limit; state = s }) → IsPgn prefix t s (pgn prefix t s)
unfolding pgn
written prefix t limit s playable =
    let filled = are_filled (game_tokens s) (game_is_short (record { limit = limit; state = s }) playable) in
    record {
      lines = filled.lines;
      full = filled.full;
      all = filled.all;
      is = ap (λ xs. ended prefix (tag_lines t s ++ [] ∷ xs ++ [] ∷ [])) filled.are;
    }
