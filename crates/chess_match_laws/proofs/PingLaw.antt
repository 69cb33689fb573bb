-- At each moment the pings that a side was sent (also in a block that could not be sent) have the numbers 1, 2 and so
-- on. By the scheme of Tellings: the invariant (`ToldIn`), which each event keeps (`tells`), also says how many they
-- are, by the phase and the number of the side's moves.
use Rattle.std.proofs.Common.{◌≡◌, ◌∙◌, ℕ, zero, suc, ◌+◌, ◌-◌, Bool, true, false, List, [], ◌∷◌, ◌++◌, length, length-append, refl, sym, ap, subst, append-nil, arith, flat_map, codes, decimal, if◌then◌else◌}
use Rattle.std.proofs.lemmas.Grind.{flat_map-append}
use Rattle.chess_base.specs.{declared.man.Colour.Colour, declared.man.Colour.TheVariants.White, declared.man.Colour.TheVariants.Black, declared.man.Move.Move, Men.other, Men.same_colour, Options.list_if}
use Rattle.cecp_engine.specs.{EngineLines.LineKind, Items.Item}
use Rattle.chess_match.specs.{Acts.awaits_line, Lines.SentLine, Lines.ping, Lines.setup_lines, Rules.Rules, declared.reason.Reason.Reason, declared.reason.Reason.TheVariants.Claimed, declared.reason.Reason.TheVariants.Decided}
use Rattle.chess_match.specs.Effects.{Match, Phase, Handshake, Setup, Opening, BeforeMove, AfterMove, Over, beginning, ends, handshake_lines, line_row, moved, opening, ping_number, answers_to}
use Rattle.chess_match.proofs.shared.LineCases.{line_cases, offered_used, offering, said_by}
use Rattle.chess_match_laws.specs.{OfActs.AtEachMoment, Rows.PingsAreNumbered, Rows.ping_text, Rows.pings}
use Rattle.chess_match_laws.proofs.{Points.Kept, Points.turn_in, Points.turns_of, Tellings.Tells, Tellings.told_at}

-- ---- numbers

-- one ping more at the end of such lines
pings-snoc : (n k : ℕ) → pings n (suc k) ≡ pings n k ++ (codes "ping " ++ decimal (n + k)) ∷ []
pings-snoc n zero = let same : n ≡ n + 0 = omega arith in ap (λ j. (codes "ping " ++ decimal j) ∷ []) same
pings-snoc n (suc k) =
    let same : n + 1 + k ≡ n + suc k = omega arith in
    ap (λ ls. (codes "ping " ++ decimal n) ∷ ls) (pings-snoc (n + 1) k
    ∙ ap (λ j. pings (n + 1) k ++ (codes "ping " ++ decimal j) ∷ []) same)

-- `pings n k` are `k` lines
pub long : (n k : ℕ) → length (pings n k) ≡ k
long n zero = refl
long n (suc k) = ap suc (long (n + 1) k)

-- the first ones of lines that are numbered from `n` are numbered from `n`
first_of : (n k : ℕ) (X Y : List (List ℕ)) → X ++ Y ≡ pings n k → (j : ℕ) × (X ≡ pings n j)
first_of n k [] Y e = (zero, refl)
first_of n zero (x ∷ X) Y e = absurd (cc)
first_of n (suc k) (x ∷ X) Y e =
    let head : x ≡ codes "ping " ++ decimal n = cc in
    let tail : X ++ Y ≡ pings (n + 1) k = cc in
    let (j, is) = first_of (n + 1) k X Y tail in
    (suc j, ap (λ l. l ∷ X) head ∙ ap (λ ls. (codes "ping " ++ decimal n) ∷ ls) is)

-- ---- lines

-- a setup has `ping 1`; answers, openings, ends and offers have no ping (the next lemmas)
setup_pings : (r : Rules) (C : Colour) → flat_map ping_text (setup_lines r C) ≡ (codes "ping " ++ decimal 1) ∷ []
unfolding setup_lines
setup_pings r C = grind (arith, flat_map-append, append-nil)

answer_pings : (items : List Item) → flat_map ping_text (answers_to items) ≡ []
answer_pings [] = refl
answer_pings (i ∷ items) = grind (arith, answer_pings items)

opening_pings : (r : Rules) (m : Match) (S : Colour) → flat_map ping_text (opening r m S) ≡ []
opening_pings r m S = grind (arith, flat_map-append, append-nil)

end_pings : (r : Rules) (m : Match) (reason : Reason) (S : Colour) → flat_map ping_text ((ends r reason m).to S) ≡ []
end_pings r m reason S = grind arith

if_none : (b : Bool) (ls : List SentLine) → flat_map ping_text ls ≡ [] → flat_map ping_text (list_if b ls) ≡ []
if_none true ls h = h
if_none false ls h = refl

draw_pings : (C S : Colour) (m : Match) → flat_map ping_text ((offering C m).to S) ≡ []
draw_pings C S m = grind arith

-- answers, and then these lines
answered : (b : Bool) (items : List Item) (ls : List SentLine)
    → flat_map ping_text (list_if b (answers_to items) ++ ls) ≡ flat_map ping_text ls
answered b items ls = flat_map-append ping_text (list_if b (answers_to items)) ls
    ∙ ap (λ l. l ++ flat_map ping_text ls) (if_none b (answers_to items) (answer_pings items))

-- ---- how many

-- how many pings S was sent in this phase
abbrev pub Counts : Colour → Phase → ℕ → ℕ → Type 0
Counts S (Handshake c) used k = k ≡ 0
Counts S (Setup c) used k = k ≡ (if same_colour S White then 1 else if same_colour c Black then 1 else 0)
Counts S (Over reason) used k = Unit {0}
Counts S p used k = k ≡ used + 1

-- `X`, the pings that S was sent or is due, are numbered from 1, and as many as `Counts` says
pub record ToldIn (S : Colour) (p : Phase) (used : ℕ) (X : List (List ℕ)) : Type 0 where
  pub many : ℕ
  pub are : X ≡ pings 1 many
  pub count : Counts S p used many

-- `ToldIn` of a match
abbrev pub Told : Colour → Match → List (List ℕ) → Type 0
Told S m X = ToldIn S m.phase (length (m.seat S).used) X

-- no more were sent
no_more : (S : Colour) (p q : Phase) (u v : ℕ) (X Z : List (List ℕ)) → Z ≡ [] → ToldIn S p u X
    → ((k : ℕ) → Counts S p u k → Counts S q v k) → ToldIn S q v (X ++ Z)
no_more S p q u v X Z none told next = record {
  many = told.many;
  are = ap (λ z. X ++ z) none ∙ append-nil X ∙ told.are;
  count = next told.many told.count;
}

-- one more was sent
one_more : (S : Colour) (p q : Phase) (u v k : ℕ) (X Z : List (List ℕ)) → X ≡ pings 1 k
    → Z ≡ (codes "ping " ++ decimal (1 + k)) ∷ [] → Counts S q v (suc k) → ToldIn S q v (X ++ Z)
one_more S p q u v k X Z are one count = record {
  many = suc k;
  are = ap (λ z. X ++ z) one ∙ ap (λ x. x ++ (codes "ping " ++ decimal (1 + k)) ∷ []) are ∙ sym (pings-snoc 1 k);
  count = count;
}

-- the match is over, and what was due may be lost
over_told : (S : Colour) (p : Phase) (u v : ℕ) (reason : Reason) (X Y Z : List (List ℕ)) → Z ≡ []
    → ToldIn S p u (X ++ Y) → ToldIn S (Over reason) v (X ++ Z)
over_told S p u v reason X Y Z none told =
    let (j, first) = first_of 1 told.many X Y told.are in
    record { many = j; are = ap (λ z. X ++ z) none ∙ append-nil X ∙ first; count = tt }

-- the match is over, and nothing was due
ends_told : (S : Colour) (p : Phase) (u v : ℕ) (reason : Reason) (X Z : List (List ℕ)) → Z ≡ []
    → ToldIn S p u X → ToldIn S (Over reason) v (X ++ Z)
ends_told S p u v reason X Z none told =
    record { many = told.many; are = ap (λ z. X ++ z) none ∙ append-nil X ∙ told.are; count = tt }

-- White's setup begins, after both handshakes
set_up_first : (S C : Colour) (u v : ℕ) (X Z : List (List ℕ)) (r : Rules)
    → Z ≡ flat_map ping_text (list_if (same_colour White S) (setup_lines r White)) → ToldIn S (Handshake C) u X
    → ToldIn S (Setup White) v (X ++ Z)
set_up_first White C u v X Z r is told =
    one_more White (Handshake C) (Setup White) u v 0 X Z (told.are ∙ ap (pings 1) told.count) (is ∙ setup_pings r White) refl
set_up_first Black C u v X Z r is told =
    no_more Black (Handshake C) (Setup White) u v X Z is told (λ k c. c)

-- Black's setup begins, after White's
set_up_second : (S C : Colour) (u v : ℕ) (X : List (List ℕ)) (r : Rules) → C ≡ White → ToldIn S (Setup C) u X
    → ToldIn S (Setup Black) v (X ++ flat_map ping_text (list_if (same_colour Black S) (setup_lines r Black)))
set_up_second White C u v X r s told =
    no_more White (Setup C) (Setup Black) u v X [] refl told (λ k c. c)
set_up_second Black White u v X r s told =
    one_more Black (Setup White) (Setup Black) u v 0 X _ (told.are ∙ ap (pings 1) told.count) (setup_pings r Black) refl
set_up_second Black Black u v X r s told = absurd (cc)

-- after the setups each side was sent one ping
first_turn : (S C : Colour) (used k : ℕ) → C ≡ Black → Counts S (Setup C) used k → used ≡ 0 → k ≡ used + 1
first_turn White C used k s c none = omega (arith, c, none)
first_turn Black White used k s c none = absurd (cc)
first_turn Black Black used k s c none = omega (arith, c, none)

-- a side's own move, after which it is sent the next ping
own_move : (C : Colour) (opened : ℕ) (us : List ℕ) (used : ℕ) (X : List (List ℕ))
    → ToldIn C (BeforeMove C opened) (length us) X
    → ToldIn C (AfterMove C) (length (us ++ used ∷ []))
    (X ++ (codes "ping " ++ decimal (length (us ++ used ∷ []) + 1)) ∷ [])
own_move C opened us used X told =
    let longer = length-append us (used ∷ []) in
    let count = told.count in
    let next : length (us ++ used ∷ []) + 1 ≡ 1 + told.many = omega (arith, longer, count) in
    one_more C (BeforeMove C opened) (AfterMove C) (length us) (length (us ++ used ∷ [])) told.many X _ told.are
    (ap (λ n. (codes "ping " ++ decimal n) ∷ []) next) (omega (arith, longer, count))

-- a move of C, for the side S
played : (C S : Colour) (opened : ℕ) (move : Move) (used : ℕ) (m : Match) (X : List (List ℕ))
    → ToldIn S (BeforeMove C opened) (length (m.seat S).used) X
    → let n = moved C move used m in
    ToldIn S (AfterMove C) (length (n.seat S).used)
    (X ++ flat_map ping_text (list_if (same_colour C S) (ping (ping_number n C) ∷ [])))
played White White opened move used m X told =
    own_move White opened (m.seat White).used used X told
played Black Black opened move used m X told =
    own_move Black opened (m.seat Black).used used X told
played White Black opened move used m X told =
    no_more Black (BeforeMove White opened) (AfterMove White) _ _ X [] refl told (λ k c. c)
played Black White opened move used m X told =
    no_more White (BeforeMove Black opened) (AfterMove Black) _ _ X [] refl told (λ k c. c)

module _ (r : Rules) (S : Colour) where
  -- any line keeps the invariant
  line : (C : Colour) (kind : LineKind) (moment : ℕ) (m : Match) (X : List (List ℕ)) → awaits_line m.phase C ≡ true
      → Kept r m → Told S m X
      → Told S (line_row r m.phase kind moment m).after
      (X ++ flat_map ping_text ((line_row r m.phase kind moment m).to S))
  line C kind moment m X aw kept told =
      line_cases r C kind moment m (λ e. Told S e.after (X ++ flat_map ping_text (e.to S))) aw (λ since.
      let n : Match = record m { since = since } in record {
        handshake_stops = λ p reason k most w. ends_told S m.phase _ _ reason X _
            (answered (same_colour C S) _ _ ∙ end_pings r (record (said_by C kind n) { count = k }) reason S) told;
        handshake_counts = λ p d few. no_more S (Handshake C) m.phase _ _ X _ (answered (same_colour C S) _ [])
            (told_as (Handshake C) p)
            (λ k c. subst (λ q. Counts S q (length ((said_by C kind n).seat S).used) k) (sym p) c);
        handshake_next = λ p s d. no_more S (Handshake C) (Handshake Black) _ _ X _
            (answered (same_colour C S) _ _ ∙ if_none (same_colour Black S) handshake_lines refl)
            (told_as (Handshake C) p) (λ k c. c);
        handshake_last = λ p s d. set_up_first S C _ _ X _ r (answered (same_colour C S) _ _)
            (told_as (Handshake C) p);
        setup_counts = λ p pong few. no_more S m.phase m.phase _ _ X [] refl told (λ k c. c);
        setup_next = λ p s pong. set_up_second S C _ _ X r s (told_as (Setup C) p);
        setup_last = λ p s pong v d. no_more S (Setup C) (Opening r.start.side) _ _ X _
            (if_none (same_colour r.start.side S) (opening r n r.start.side) (opening_pings r n r.start.side))
            (told_as (Setup C) p) (λ k c. first_turn S C (length (m.seat S).used) k s c (unused p));
        setup_draws = λ p claim v d. ends_told S m.phase _ _ _ X _ (end_pings r n (Claimed claim) S) told;
        setup_decides = λ p v e. ends_told S m.phase _ _ _ X _ (end_pings r n (Decided v) S) told;
        stops = λ done reason w. ends_told S m.phase _ _ reason X _ (end_pings r n reason S) told;
        counts = λ on none few. no_more S m.phase m.phase _ _ X [] refl told (λ k c. c);
        offers = λ on none own. no_more S m.phase m.phase (length (m.seat S).used) _ X _ (draw_pings C S n) told
            (λ k c. subst (λ us. Counts S m.phase (length us) k) (sym (offered_used C S n)) c);
        plays = λ text move opened is p read room timely v d.
            played C S opened move (moment - opened) n X (told_as (BeforeMove C opened) p);
        draws = λ text move opened claim is p read room timely v d.
            ends_told S m.phase _ _ _ X _ (end_pings r (moved C move (moment - opened) n) (Claimed claim) S) told;
        decides = λ text move opened v is p read room timely e.
            ends_told S m.phase _ _ _ X _ (end_pings r (moved C move (moment - opened) n) (Decided v) S) told;
        passes = λ p none. no_more S (AfterMove C) (Opening (other C)) _ _ X _
            (if_none (same_colour (other C) S) (opening r n (other C)) (opening_pings r n (other C)))
            (told_as (AfterMove C) p) (λ k c. c);
      })
    where
      told_as : (p : Phase) → m.phase ≡ p → ToldIn S p (length (m.seat S).used) X
      told_as p e = subst (λ q. ToldIn S q (length (m.seat S).used) X) e told

      -- before the first turn no move is made
      unused : m.phase ≡ Setup C → length (m.seat S).used ≡ 0
      unused p = kept.1 S ∙ ap (λ (ms : List Move). turns_of S r.start.side ms) (turn_in r m (Setup C) p kept)

  pub tells : Tells ping_text r S (Told S)
  tells = record {
    line = line;
    stops = λ m reason X Y on told. over_told S m.phase _ _ reason X Y _ (end_pings r m reason S) told;
    waits = λ m since X told. told;
    opened = λ m C k X e told. record {
      many = told.many;
      are = told.are;
      count = subst (λ q. Counts S q (length (m.seat S).used) told.many) e told.count;
    };
  }

-- the invariant holds at the beginning
pub begun : (S : Colour) → Told S beginning.after (flat_map ping_text (beginning.to S))
begun White = record { many = 0; are = refl; count = refl }
begun Black = record { many = 0; are = refl; count = refl }

pub pings_are_numbered : AtEachMoment PingsAreNumbered
pings_are_numbered r H K final g S =
    told_at ping_text r S (Told S) (tells r S) (λ m X. X ≡ pings 1 (length X)) H K final
    (λ m due q X told. let (j, is) = first_of 1 told.many X _ told.are in
    is ∙ ap (pings 1) (sym (long 1 j) ∙ ap length (sym is))) g (begun S)
