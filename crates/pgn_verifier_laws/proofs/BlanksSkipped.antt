-- White space before a game is skipped, since a skipped token in front changes nothing (one_skipped, end_skipped): from
-- its first byte on a game is read the same as from an offset before the white space (begins_alike), and after a fault
-- it is read on at the same offset (goes_on_alike). The first byte isn't before that offset (begins_later).
use Rattle.std.proofs.Common.{◌≡◌, ℕ, ◌+◌, ◌-◌, ◌<◌, ◌≤◌, ◌||◌, ◌==◌, eqb, Bool, true, false, cond, List, [], ◌∷◌, length, take, drop, None, one-add, refl, sym, ap, ◌∙◌, arith, drop-drop, codes, slice_get}
use Rattle.std.specs.{List.filter_map, List.prefix_len, Option.option_map_or}
use Rattle.std.proofs.lemmas.Bool.Decides.{nat_tests}
use Rattle.chess_base.specs.declared.man.Variant.TheVariants.{Normal}
use Rattle.chess_pgn.specs.{GameEnds.ends_at, GameEnds.game_end, GameRead.pgn_read, laws.TokenByToken.game_of, laws.TokenByToken.nothing_read, laws.TokenByToken.tokens_read, shared.VariantNames.variant_named}
use Rattle.pgn_tokens.specs.LastTags.{may_precede_tags}
use Rattle.pgn_tokens.specs.Tokens.{Token, Skip, begins_line, is_white_space, tokens_from}
use Rattle.byte_devices.specs.Bytes.{after_byte_order_mark}
use Rattle.pgn_tokens.specs.shared.Kinds.{IsOf, IsLongest, Blank, token}
use Rattle.pgn_tokens.proofs.{shared.Tags.last_step, shared.Tokens.read_kinds, shared.Tokens.kinds_read}
use Rattle.pgn_verifier.specs.{Reports.game_begin, laws.Reported.next_at}
use Rattle.pgn_verifier_laws.proofs.PartsAlike.{TokenByToken, not_before, no_mark}

-- a byte of white space is a token of its own
blank_is_longest : (b : Bool) (c : ℕ) (rest : List ℕ) → is_white_space c ≡ true → IsLongest (IsOf b Blank) (c ∷ []) rest
blank_is_longest b c rest white = record {
  is = (c, refl, ap (λ t. t || (c == 46)) white);
  longest = λ more others same h. no_more_bytes more h;
}
  where
    no_more_bytes : (more : List ℕ) → IsOf b Blank (c ∷ more) → more ≡ []
    no_more_bytes more (d, is, h) = cc

-- so the first token at such a byte is a skipped one, and the others follow after it
blank_first : (text : List ℕ) (at c : ℕ) (rest : List ℕ) → drop at text ≡ c ∷ rest → is_white_space c ≡ true
    → tokens_from text at ≡ (length text - at, Skip) ∷ tokens_from text (at + 1)
blank_first text at c rest is white =
    sym (kinds_read text (token Blank (c ∷ []) rest is (blank_is_longest (begins_line text at) c rest white) (read_kinds text (at + 1))))

-- a skipped token in front doesn't change what is read
one_skipped : (draws : Bool) (limit total left : ℕ) (ts : List (ℕ × Token))
    → tokens_read draws limit total ((left, Skip) ∷ ts) ≡ tokens_read draws limit total ts
one_skipped draws limit total left ts =
    ap (λ o. game_of draws limit total (nothing_read (option_map_or (λ tag. variant_named tag.0) o Normal)) ts)
    (last_step (codes "Variant") None (left, Skip) ts)

-- nor where the game ends
end_skipped : (total left : ℕ) (ts : List (ℕ × Token)) → game_end total ((left, Skip) ∷ ts) ≡ game_end total ts
end_skipped total left ts =
    ap (λ k. slice_get (filter_map (ends_at total)
    (drop (length (take k ((left, Skip) ∷ ts))) ((left, Skip) ∷ ts))) 0)
    (one-add (prefix_len (λ t. may_precede_tags t.1) ts))

-- anything that is said of a list of tokens (`said`) and ignores a skipped token in front (`skip`) is the same from the
-- end of the white space on
module _ {A : Type 0} (said : List (ℕ × Token) → A)
    (skip : (left : ℕ) (ts : List (ℕ × Token)) → said ((left, Skip) ∷ ts) ≡ said ts)
  where
    run_skipped : (text rest : List ℕ) (at : ℕ) → drop at text ≡ rest
        → said (tokens_from text at) ≡ said (tokens_from text (at + prefix_len is_white_space rest))
    run_skipped text [] at is = ap (λ n. said (tokens_from text n)) (omega arith)
    run_skipped text (c ∷ rest) at is =
        by_test (is_white_space c) refl (run_skipped text rest (at + 1) (sym (drop-drop 1 at text) ∙ ap (drop 1) is))
      where
        by_test : (b : Bool) → is_white_space c ≡ b
            → said (tokens_from text (at + 1)) ≡ said (tokens_from text (at + 1 + prefix_len is_white_space rest))
            → said (tokens_from text at)
            ≡ said (tokens_from text (at + cond b (1 + prefix_len is_white_space rest) 0))
        by_test true e later =
            ap said (blank_first text at c rest is e) ∙ skip (length text - at) (tokens_from text (at + 1)) ∙ later
            ∙ ap (λ n. said (tokens_from text n)) (omega arith)
        by_test false e later = ap (λ n. said (tokens_from text n)) (omega arith)

-- the byte order mark at the text's front is not before a game's first byte
mark_passed : (text : List ℕ) (at : ℕ) → after_byte_order_mark text (game_begin text at) ≡ game_begin text at
mark_passed text at = by_place (eqb (game_begin text at) 0) refl
  where
    first : ℕ
    first = after_byte_order_mark text at

    by_place : (b : Bool) → eqb (game_begin text at) 0 ≡ b
        → after_byte_order_mark text (game_begin text at) ≡ game_begin text at
    by_place true e =
        let begin : first + prefix_len is_white_space (drop first text) ≡ 0 = grind (arith, nat_tests, e) in
        let early : at ≤ first = not_before text at in
        let here : first + prefix_len is_white_space (drop first text) ≡ at = omega (arith, begin, early) in
        let still : first ≡ first + prefix_len is_white_space (drop first text) = omega (arith, begin) in
        ap (after_byte_order_mark text) here ∙ still
    by_place false e =
        let some : 0 < first + prefix_len is_white_space (drop first text) = grind (arith, nat_tests, e) in
        no_mark text (game_begin text at) some

-- the game that is read is the same from its first byte on
pub begins_alike : TokenByToken → (draws : Bool) (limit : ℕ) (text : List ℕ) (at : ℕ)
    → pgn_read draws limit text at ≡ pgn_read draws limit text (game_begin text at)
begins_alike law draws limit text at =
    let first : ℕ = after_byte_order_mark text at in
    law draws limit text at
    ∙ run_skipped (tokens_read draws limit (length text)) (one_skipped draws limit (length text)) text
    (drop first text) first refl
    ∙ ap (λ n. tokens_read draws limit (length text) (tokens_from text n)) (sym (mark_passed text at))
    ∙ sym (law draws limit text (game_begin text at))

-- and reading goes on at the same place after a fault
pub goes_on_alike : (goes_on : Bool) (text : List ℕ) (at : ℕ)
    → next_at goes_on text (game_begin text at) ≡ next_at goes_on text at
goes_on_alike false text at = refl
goes_on_alike true text at =
    let first : ℕ = after_byte_order_mark text at in
    ap (λ n. game_end (length text) (tokens_from text n)) (mark_passed text at)
    ∙ sym (run_skipped (game_end (length text)) (end_skipped (length text)) text (drop first text) first refl)

-- a game that is read begins in the text, not before the offset from which it is read
pub begins_later : (text : List ℕ) (at : ℕ) → at ≤ game_begin text at
begins_later text at = let early = not_before text at in omega (arith, early)
