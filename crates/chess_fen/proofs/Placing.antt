-- Reading a placement byte by byte, up to the first space, gives the board that the definition reads of the text before
-- that space (placing-read): by the text's first byte, a space, a slash or another. `Placing`, the invariant of
-- `read_placement`, is kept by a rank and a slash (placed_on); after the last rank the board is whole (placed_whole). A
-- missing rank or slash, or more text after the last rank, makes it no board (no_rank, no_more, too_many).
use Rattle.std.proofs.Common.{◌≡◌, ℕ, zero, suc, ◌+◌, ◌-◌, ◌*◌, ◌<◌, ◌≤◌, Bool, true, false, cond, eqb, List, [], ◌∷◌, ◌++◌, length, map, get_or, take, drop, Option, Some, None, refl, sym, ap, ◌∙◌, ◌≢◌, append_assoc, append-nil, arith, length-append, option_map, replicate, option_and_then}
use Rattle.std.specs.List.{slice_split, onto_first, position_or_len, before_first}
use Rattle.std.proofs.{lemmas.Bool.Decides.nat_tests, lemmas.List.Splits.length-slice_split}
use Rattle.std.proofs.lemmas.List.{take-replicate, drop-replicate, length-replicate, drop-take, take-take}
use Rattle.chess_base.specs.declared.man.Man.{Man}
use Rattle.chess_fen.specs.Texts.{squares_of, all_there, rank_of, from_top, placement_of}
use Rattle.chess_fen.specs.ties.Runs.{at_lower, last_rank, placing, from_space, NoRankIsRead, RankIsPlaced, SlashIsRead, NoSlashIsRead, Ends, PlacementIsRead}
use Rattle.chess_fen.proofs.{DenotedRanks.joined, DenotedRanks.eight, RankBytes.no_man, RankBytes.all_none, RankBytes.placing_over}

-- no board: the text denotes none
abbrev no_board : Option (List (Option Man))
no_board = None

-- ---- after a rank

-- each byte that denotes squares denotes at least one
some_squares : (c : ℕ) (s : List (Option Man)) → squares_of c ≡ Some s → 0 < length s
some_squares c s is = grind (arith, nat_tests, is, length-replicate (c - 48) no_man)

-- after eight squares of a rank, a byte that denotes more squares makes the text denote no board
full : (left : ℕ) (row above : List (Option Man)) (c : ℕ) (cs : List ℕ) → length row ≡ 8
    → option_and_then (λ s. placing left (row ++ s) above cs) (squares_of c) ≡ None
full left row above c cs eight = by_squares (squares_of c) refl
  where
    by_squares : (o : Option (List (Option Man))) → squares_of c ≡ o
        → option_and_then (λ s. placing left (row ++ s) above cs) o ≡ None
    by_squares None is = refl
    by_squares (Some s) is =
        let more = some_squares c s is in
        placing_over left (row ++ s) above cs (omega (arith, length-append row s, eight, more))

-- a text that doesn't begin with a slash (47) has no next rank to read
pub no_stroke : (text : List ℕ) → get_or text 0 0 ≢ 47 → NoSlashIsRead text
no_stroke [] other = λ lower row above eight. refl
no_stroke (c ∷ cs) other = λ lower row above eight.
    (let stroke : eqb c 47 ≡ false = grind (arith, nat_tests, other) in
    rw stroke (all_none (eqb c 32) false None None _ refl refl (full (suc lower) row above c cs eight)))

-- a text that isn't empty ends the placement exactly if it begins with a space
pub ends_at : (text : List ℕ) → 1 ≤ length text → Ends (eqb (get_or text 0 0) 32) text
ends_at [] h = absurd (omega (arith, h))
ends_at (c ∷ cs) h = by_test (eqb c 32) refl
  where
    by_test : (b : Bool) → eqb c 32 ≡ b → Ends b (c ∷ cs)
    by_test true e = (
      (λ row above eight. (let t : eqb (length row) 8 ≡ true = grind (arith, nat_tests) in
          rw (e, t) refl)),
      rw e refl,
    )
    by_test false e = λ row above eight.
        rw e (all_none false (eqb c 47) None None _ refl refl (full 0 row above c cs eight))

-- ---- the whole placement

-- the parts of a text's first field between slashes
abbrev parted : List ℕ → List (List ℕ)
parted text = slice_split (λ c. eqb c 47) (before_first (λ b. eqb b 32) text)

-- the eight squares of a rank: `row`, which are read, and those of `part`, the rest of its text; none if there aren't
-- eight
abbrev begun : List (Option Man) → List ℕ → Option (List (Option Man))
begun row part = eight (option_map (λ squares. row ++ joined squares) (all_there (map squares_of part)))

-- the board by the texts of its lower ranks (`parts`) and the squares `above` them; none if a part is no rank
abbrev below : List (Option Man) → List (List ℕ) → Option (List (Option Man))
below above parts = option_map (λ rows. from_top rows ++ above) (all_there (map rank_of parts))

-- the squares by the parts still to be read, the first of them begun
abbrev by_parts : ℕ → List (Option Man) → List (Option Man) → List (List ℕ) → Option (List (Option Man))
by_parts left row above [] = None
by_parts left row above (part ∷ parts) =
    cond (eqb (length parts) left) (option_and_then (λ r. below (r ++ above) parts) (begun row part)) None

-- the first of these parts may be read first, and its squares put below those above
one_more : (above : List (Option Man)) (part : List ℕ) (parts : List (List ℕ))
    → below above (part ∷ parts) ≡ option_and_then (λ r. below (r ++ above) parts) (rank_of part)
one_more above part parts = by_row (rank_of part) (all_there (map rank_of parts))
  where
    by_row : (o : Option (List (Option Man))) (rest : Option (List (List (Option Man))))
        → option_map (λ rows. from_top rows ++ above) (option_and_then (λ r. option_map (λ rows. r ∷ rows) rest) o)
        ≡ option_and_then (λ r. option_map (λ rows. from_top rows ++ (r ++ above)) rest) o
    by_row None rest = refl
    by_row (Some row) None = refl
    by_row (Some row) (Some rows) = ap Some (append_assoc (from_top rows) row above)

-- no board, whatever the test
none_either : (b : Bool) → cond b no_board no_board ≡ None
none_either true = refl
none_either false = refl

-- where the text ends, `placing` gives what the parts say: no rank may be left
last_part : (left : ℕ) (row above : List (Option Man)) → last_rank left row above ≡ by_parts left row above ([] ∷ [])
last_part zero row above = grind (arith, append-nil row)
last_part (suc lower) row above = let e : eqb 0 (suc lower) ≡ false = grind (arith, nat_tests) in rw e refl

eqb-suc : (a b : ℕ) → eqb (suc a) (suc b) ≡ eqb a b
eqb-suc a b = grind (arith, nat_tests)

-- at a slash `placing` goes on with the next rank, as the parts say: an empty part is begun, and one rank fewer is left
next_part : (left : ℕ) (row above : List (Option Man)) (parts : List (List ℕ)) (f : ℕ → Option (List (Option Man)))
    → 0 < length parts → ((lower : ℕ) → f lower ≡ by_parts lower [] (row ++ above) parts)
    → at_lower left (λ lower. cond (eqb (length row) 8) (f lower) None) ≡ by_parts left row above ([] ∷ parts)
next_part left row above [] f some on = absurd (omega (arith, some))
next_part zero row above (part ∷ parts) f some on =
    let e : eqb (suc (length parts)) 0 ≡ false = grind (arith, nat_tests) in rw e refl
next_part (suc lower) row above (part ∷ parts) f some on =
    by_test (eqb (length row) 8)
    ∙ ap (λ squares. cond (eqb (suc (length parts)) (suc lower))
    (option_and_then (λ r. below (r ++ above) (part ∷ parts)) (eight (Some squares))) None) (sym (append-nil row))
  where
    by_test : (b : Bool) → cond b (f lower) None
        ≡ cond (eqb (suc (length parts)) (suc lower))
        (option_and_then (λ r. below (r ++ above) (part ∷ parts)) (cond b (Some row) None)) None
    by_test true =
        rw (eqb-suc (length parts) lower)
        (on lower ∙ ap (λ o. cond (eqb (length parts) lower) o None) (sym (one_more (row ++ above) part parts)))
    by_test false = sym (none_either (eqb (suc (length parts)) (suc lower)))

-- at a byte of a rank `placing` goes on in the same part: the byte's squares are put after those read
same_part : (left : ℕ) (row above : List (Option Man)) (c : ℕ) (cs : List ℕ) (parts : List (List ℕ))
    → 0 < length parts → ((row : List (Option Man)) → placing left row above cs ≡ by_parts left row above parts)
    → option_and_then (λ s. placing left (row ++ s) above cs) (squares_of c)
    ≡ by_parts left row above (onto_first c parts)
same_part left row above c cs [] some on = absurd (omega (arith, some))
same_part left row above c cs (part ∷ parts) some on = by_squares (squares_of c)
  where
    by_rest : (s : List (Option Man)) (o : Option (List (List (Option Man))))
        → option_map (λ squares. (row ++ s) ++ joined squares) o
        ≡ option_map (λ squares. row ++ joined squares) (option_map (λ squares. s ∷ squares) o)
    by_rest s None = refl
    by_rest s (Some squares) = ap Some (append_assoc row s (joined squares))

    by_squares : (o : Option (List (Option Man))) → option_and_then (λ s. placing left (row ++ s) above cs) o
        ≡ cond (eqb (length parts) left) (option_and_then (λ r. below (r ++ above) parts)
        (eight (option_map (λ squares. row ++ joined squares)
        (option_and_then (λ s. option_map (λ squares. s ∷ squares) (all_there (map squares_of part))) o)))) None
    by_squares None = sym (none_either (eqb (length parts) left))
    by_squares (Some s) =
        on (row ++ s)
        ∙ ap (λ o. cond (eqb (length parts) left) (option_and_then (λ r. below (r ++ above) parts) (eight o)) None)
        (by_rest s (all_there (map squares_of part)))

-- a text has at least one part
some_parts : (text : List ℕ) → 0 < length (parted text)
some_parts text = omega (arith, length-slice_split (λ c. eqb c 47) (before_first (λ b. eqb b 32) text))

-- reading byte by byte gives what the parts of the text give, by its first byte: space, slash or another
placing-parts : (left : ℕ) (row above : List (Option Man)) (text : List ℕ)
    → placing left row above text ≡ by_parts left row above (parted text)
placing-parts left row above [] = last_part left row above
placing-parts left row above (c ∷ cs) = by_space (λ left row above. placing-parts left row above cs) (eqb c 32) refl
  where
    Parts : Type 0
    Parts = (left : ℕ) → (row above : List (Option Man))
        → placing left row above cs ≡ by_parts left row above (parted cs)

    next : 1 + position_or_len (λ b. eqb b 32) cs ≡ suc (position_or_len (λ b. eqb b 32) cs)
    next = omega arith

    by_stroke : Parts → (b : Bool) → eqb c 32 ≡ false → eqb c 47 ≡ b
        → placing left row above (c ∷ cs) ≡ by_parts left row above (parted (c ∷ cs))
    by_stroke on true t u =
        rw (t, next, u) (next_part left row above (parted cs) (λ lower. placing lower [] (row ++ above) cs)
        (some_parts cs) (λ lower. on lower [] (row ++ above)))
    by_stroke on false t u =
        rw (t, next, u) (same_part left row above c cs (parted cs) (some_parts cs)
        (λ row. on left row above))

    by_space : Parts → (b : Bool) → eqb c 32 ≡ b
        → placing left row above (c ∷ cs) ≡ by_parts left row above (parted (c ∷ cs))
    by_space on true t = rw t (last_part left row above)
    by_space on false t = by_stroke on (eqb c 47) t refl

-- reading a placement byte by byte from its start gives the board that the definition reads of the text before the
-- first space
pub placing-read : (text : List ℕ) → placing 7 [] [] text ≡ placement_of (before_first (λ b. eqb b 32) text)
placing-read text = placing-parts 7 [] [] text ∙ by_list (parted text) (some_parts text)
  where
    on_nothing : (o : Option (List (List (Option Man))))
        → option_map (λ rows. from_top rows ++ []) o ≡ option_map from_top o
    on_nothing None = refl
    on_nothing (Some rows) = ap Some (append-nil (from_top rows))

    by_list : (parts : List (List ℕ)) → 0 < length parts
        → by_parts 7 [] [] parts ≡ cond (eqb (length parts) 8) (option_map from_top (all_there (map rank_of parts))) None
    by_list [] some = absurd (omega (arith, some))
    by_list (part ∷ parts) some =
        rw (eqb-suc (length parts) 7) (ap (λ o. cond (eqb (length parts) 7) o None)
        (sym (one_more [] part parts) ∙ on_nothing (all_there (map rank_of (part ∷ parts)))))

-- the invariant of `read_placement`: `left` ranks are left to read, and their squares on the board `men` are still
-- empty; reading them from the text `rest`, below the ranks that are on the board, gives the board of the whole text
pub record Placing (text : List ℕ) (men : List (Option Man)) (rest : List ℕ) (left : ℕ) : Type 0 where
  pub on : placing (left - 1) [] (drop (8 * left) men) rest ≡ placing 7 [] [] text
  pub back : from_space rest ≡ from_space text
  pub empty : take (8 * left) men ≡ replicate (8 * left) None
  pub some : 0 < left

-- the squares of the next rank are still empty
pub rank_empty : (rank : ℕ) (men : List (Option Man)) → take (8 * rank + 8) men ≡ replicate (8 * rank + 8) None
    → take ((8 * rank + 8) - 8 * rank) (drop (8 * rank) men) ≡ replicate 8 None
rank_empty rank men empty =
    let eight : (8 * rank + 8) - 8 * rank ≡ 8 = omega arith in
    ap (λ n. take n (drop (8 * rank) men)) eight ∙ sym (drop-take (8 * rank) 8 men) ∙ ap (drop (8 * rank)) empty
    ∙ drop-replicate (8 * rank) (8 * rank + 8) None ∙ ap (λ n. replicate n None) eight

-- if no rank is at the front of the rest, the first field denotes no board
pub no_rank : (text men rest : _) (left : ℕ) → Placing text men rest left → NoRankIsRead rest
    → placement_of (before_first (λ b. eqb b 32) text) ≡ None
no_rank text men rest left so_far none =
    sym (placing-read text) ∙ sym so_far.on ∙ none (left - 1) (drop (8 * left) men)

-- if a rank is at the front of the rest, the board of the first field is what reading from the rank's end gives
by_rank : (text men new rest ended : _) (left : ℕ) → 0 < left → Placing text men rest left
    → (p : RankIsPlaced rest (left - 1) men new ended)
    → placing (left - 1) p.row (drop (8 * left) men) ended ≡ placement_of (before_first (λ b. eqb b 32) text)
by_rank text men new rest ended left some so_far p =
    sym (p.read.on (left - 1) (drop (8 * left) men)) ∙ so_far.on ∙ placing-read text

-- if no slash follows though ranks are left, the first field denotes no board
pub no_more : (text men new rest ended : _) (left : ℕ) → 1 < left → Placing text men rest left
    → RankIsPlaced rest (left - 1) men new ended → NoSlashIsRead ended
    → placement_of (before_first (λ b. eqb b 32) text) ≡ None
no_more text men new rest ended left some so_far p none =
    let lower : left - 1 ≡ suc (left - 2) = omega arith in
    sym (by_rank text men new rest ended left (omega arith) so_far p)
    ∙ ap (λ k. placing k p.row (drop (8 * left) men) ended) lower
    ∙ none (left - 2) p.row (drop (8 * left) men) p.read.eight

-- the squares of a new rank, and above them those that were on the board
above_is : (left : ℕ) (row old new : List (Option Man)) → 0 < left
    → drop (8 * (left - 1)) new ≡ row ++ drop (8 * (left - 1) + 8) old
    → drop (8 * (left - 1)) new ≡ row ++ drop (8 * left) old
above_is left row old new some above =
    let on : 8 * (left - 1) + 8 ≡ 8 * left = omega arith in above ∙ ap (λ k. row ++ drop k old) on

-- a step of the loop: after a rank and a slash the invariant holds with one rank fewer left
pub placed_on : (text men new rest ended next : _) (left : ℕ) → 1 < left → Placing text men rest left
    → RankIsPlaced rest (left - 1) men new ended → SlashIsRead ended next → Placing text new next (left - 1)
placed_on text men new rest ended next left some so_far p stroke =
    let lower : left - 1 ≡ suc (left - 2) = omega arith in
    let twice : left - 1 - 1 ≡ left - 2 = omega arith in
    let fewer : 8 * (left - 1) ≤ 8 * left = omega arith in
    record {
      on = rw (above_is left p.row men new (omega arith) p.above, twice)
          (sym (stroke.on (left - 2) p.row (drop (8 * left) men) p.read.eight)
          ∙ ap (λ k. placing k p.row (drop (8 * left) men) ended) (sym lower)
          ∙ by_rank text men new rest ended left (omega arith) so_far p ∙ sym (placing-read text));
      back = sym stroke.back ∙ sym p.read.back ∙ so_far.back;
      empty = p.below ∙ sym (take-take (8 * (left - 1)) (8 * left) men fewer) ∙ ap (take (8 * (left - 1))) so_far.empty
          ∙ take-replicate (8 * (left - 1)) (8 * left) None fewer;
      some = omega arith;
    }

-- after the last rank, where the placement ends, the board is that of the first field
pub placed_whole : (text men new rest ended : _) (left : ℕ) → left ≡ 1 → Placing text men rest left
    → RankIsPlaced rest 0 men new ended → Ends true ended → PlacementIsRead text new ended
placed_whole text men new rest ended left last so_far p end =
    record {
      denotes = sym (placing-read text) ∙ sym so_far.on ∙ rw last (p.read.on 0 (drop 8 men)
          ∙ end.0 p.row (drop 8 men) p.read.eight ∙ ap (λ xs. Some xs) (sym p.above));
      back = sym end.1 ∙ sym p.read.back ∙ so_far.back;
    }

-- if the placement doesn't end after the last rank, the first field denotes no board
pub too_many : (text men new rest ended : _) (left : ℕ) → left ≡ 1 → Placing text men rest left
    → RankIsPlaced rest 0 men new ended → Ends false ended
    → placement_of (before_first (λ b. eqb b 32) text) ≡ None
too_many text men new rest ended left last so_far p past =
    sym (placing-read text) ∙ sym so_far.on ∙ rw last (p.read.on 0 (drop 8 men) ∙ past p.row (drop 8 men) p.read.eight)
