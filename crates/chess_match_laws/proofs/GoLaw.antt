-- At each moment a side was sent `go` at most once (go_is_sent_once), and just once whenever the clock is read for the
-- opening of one of its turns (was_sent_go). By the scheme of Tellings: the invariant (`ToldIn`), which each event
-- keeps (`tells`), says by the phase and the side's moves how many `go` it was sent.
use Rattle.std.proofs.Common.{◌≡◌, ◌∙◌, ℕ, zero, suc, ◌-◌, ◌≤◌, Bool, true, false, ◌||◌, List, [], ◌∷◌, ◌++◌, length, length-append, refl, sym, ap, subst, append-nil, arith, flat_map, codes, if◌then◌else◌, nat_lt}
use Rattle.std.proofs.{lemmas.Grind.flat_map-append, lemmas.Bool.Decides.nat_tests}
use Rattle.chess_base.specs.{declared.man.Colour.Colour, declared.man.Colour.TheVariants.White, declared.man.Colour.TheVariants.Black, declared.man.Move.Move, Men.other, Men.same_colour, Options.list_if}
use Rattle.chess_base.proofs.shared.Men.{same_colour-self, same_colour-true}
use Rattle.cecp_engine.specs.{EngineLines.LineKind, Items.Item}
use Rattle.chess_match.specs.Acts.{Block, Happens, IsMatchFrom, awaits_line}
use Rattle.chess_match.specs.Effects.{Match, Phase, Handshake, Setup, Opening, BeforeMove, AfterMove, Over, beginning, begins_turn, ends, handshake_lines, line_row, moved, opening, answers_to}
use Rattle.chess_match.specs.{Events.Opened, Lines.SentLine, Lines.setup_lines, Rules.Rules, declared.reason.Reason.Reason, declared.reason.Reason.TheVariants.Claimed, declared.reason.Reason.TheVariants.Decided}
use Rattle.chess_match.proofs.shared.LineCases.{line_cases, offered_used, offering, said_by}
use Rattle.chess_match_laws.specs.{OfActs.AtEachMoment, OfActs.AtEachOpening, Rows.GoIsSentOnce, Rows.WasSentGo, Rows.go_text}
use Rattle.chess_match_laws.proofs.{Givings.lines_due, Points.Kept, Points.turn_in, Points.turns_of, Tellings.Tells, Tellings.told_at}

-- ---- lines

-- no `go` is among the lines of a setup, nor among answers (`answer_goes`)
setup_goes : (r : Rules) (C : Colour) → flat_map go_text (setup_lines r C) ≡ []
unfolding setup_lines
setup_goes r C = grind (arith, flat_map-append, append-nil)

answer_goes : (items : List Item) → flat_map go_text (answers_to items) ≡ []
answer_goes [] = refl
answer_goes (i ∷ items) = grind (arith, answer_goes items)

-- an opening has `go` only before the first move of S
opening_goes : (r : Rules) (m : Match) (S : Colour)
    → flat_map go_text (opening r m S) ≡ (if nat_lt 0 (length (m.seat S).used) then [] else codes "go" ∷ [])
opening_goes r m S = grind (arith, flat_map-append, append-nil)

-- the end has none, nor has an offer (`draw_goes`)
end_goes : (r : Rules) (m : Match) (reason : Reason) (S : Colour) → flat_map go_text ((ends r reason m).to S) ≡ []
end_goes r m reason S = grind arith

if_none : (b : Bool) (ls : List SentLine) → flat_map go_text ls ≡ [] → flat_map go_text (list_if b ls) ≡ []
if_none true ls h = h
if_none false ls h = refl

draw_goes : (C S : Colour) (m : Match) → flat_map go_text ((offering C m).to S) ≡ []
draw_goes C S m = grind arith

answered : (b : Bool) (items : List Item) (ls : List SentLine) → flat_map go_text ls ≡ []
    → flat_map go_text (list_if b (answers_to items) ++ ls) ≡ []
answered b items ls h = flat_map-append go_text (list_if b (answers_to items)) ls
    ∙ ap (λ l. l ++ flat_map go_text ls) (if_none b (answers_to items) (answer_goes items)) ∙ h

-- ---- how many

abbrev one_if : Bool → ℕ
one_if b = if b then 1 else 0

-- how many `go` S was sent, by the phase and the times of its moves
abbrev Counts : Colour → Phase → List ℕ → ℕ → Type 0
Counts S (Handshake c) used n = n ≡ 0
Counts S (Setup c) used n = n ≡ 0
Counts S (Opening c) used n = n ≡ (if same_colour c S || nat_lt 0 (length used) then 1 else 0)
Counts S (BeforeMove c opened) used n = n ≡ (if same_colour c S || nat_lt 0 (length used) then 1 else 0)
Counts S (AfterMove c) used n = n ≡ (if nat_lt 0 (length used) then 1 else 0)
Counts S (Over reason) used n = Unit {0}

-- `X`, the `go` that S was sent or is due, are at most one, and as many as `Counts` says
record ToldIn (S : Colour) (p : Phase) (used : List ℕ) (X : List (List ℕ)) : Type 0 where
  few : length X ≤ 1
  count : Counts S p used (length X)

-- `ToldIn` of a match
abbrev Told : Colour → Match → List (List ℕ) → Type 0
Told S m X = ToldIn S m.phase (m.seat S).used X

short : (b : Bool) (n : ℕ) → n ≡ (if b then 1 else 0) → n ≤ 1
short true n e = omega (arith, e)
short false n e = omega (arith, e)

-- no `go` more
no_more : (S : Colour) (p q : Phase) (us vs : List ℕ) (X Z : List (List ℕ)) → Z ≡ [] → ToldIn S p us X
    → (Counts S p us (length X) → Counts S q vs (length X)) → ToldIn S q vs (X ++ Z)
no_more S p q us vs X Z none told next =
    let same : X ≡ X ++ Z = sym (ap (λ z. X ++ z) none ∙ append-nil X) in
    subst (ToldIn S q vs) same (record { few = told.few; count = next told.count })

-- the match is over, and what was due may be lost
over_told : (S : Colour) (p : Phase) (us vs : List ℕ) (reason : Reason) (X Y Z : List (List ℕ)) → Z ≡ []
    → ToldIn S p us (X ++ Y) → ToldIn S (Over reason) vs (X ++ Z)
over_told S p us vs reason X Y Z none told =
    let same : X ≡ X ++ Z = sym (ap (λ z. X ++ z) none ∙ append-nil X) in
    let l = length-append X Y in
    let few = told.few in
    subst (ToldIn S (Over reason) vs) same (record { few = omega (arith, few, l); count = tt })

-- the match is over, and nothing was due
ends_told : (S : Colour) (p : Phase) (us vs : List ℕ) (reason : Reason) (X Z : List (List ℕ)) → Z ≡ []
    → ToldIn S p us X → ToldIn S (Over reason) vs (X ++ Z)
ends_told S p us vs reason X Z none told =
    let same : X ≡ X ++ Z = sym (ap (λ z. X ++ z) none ∙ append-nil X) in
    subst (ToldIn S (Over reason) vs) same (record { few = told.few; count = tt })

-- a turn of `c` is opened, before which S was sent `n`
turn_opened : (r : Rules) (S c : Colour) (m : Match) (X : List (List ℕ))
    → length X ≡ (if nat_lt 0 (length (m.seat S).used) then 1 else 0)
    → Told S (begins_turn r c m).after (X ++ flat_map go_text ((begins_turn r c m).to S))
turn_opened r S c m X count = at (same_colour c S) refl
  where
    n : Match
    n = (begins_turn r c m).after

    -- with S's own opening
    own : (b : Bool) → nat_lt 0 (length (m.seat S).used) ≡ b → length X ≡ (if b then 1 else 0)
        → length (X ++ (let z : List (List ℕ) = (if b then [] else codes "go" ∷ []) in z)) ≡ 1
    own true e k = ap length (append-nil X) ∙ k
    own false e k = let l = length-append X (codes "go" ∷ []) in omega (arith, k, l)

    told_by : (a : Bool) (Z : List (List ℕ)) → same_colour c S ≡ a
        → length (X ++ Z) ≡ (if a || nat_lt 0 (length (m.seat S).used) then 1 else 0)
        → Told S n (X ++ Z)
    told_by a Z e k = record {
      few = short (a || nat_lt 0 (length (m.seat S).used)) _ k;
      count = k ∙ ap (λ (b : Bool). one_if (b || nat_lt 0 (length (m.seat S).used))) (sym e);
    }

    at : (a : Bool) → same_colour c S ≡ a → Told S n (X ++ flat_map go_text (list_if (same_colour c S) (opening r n c)))
    at false e =
        let none : flat_map go_text (list_if (same_colour c S) (opening r n c)) ≡ [] =
        ap (λ (b : Bool). flat_map go_text (list_if b (opening r n c))) e in
        told_by false _ e (ap (λ z. length (X ++ z)) none ∙ ap length (append-nil X) ∙ count)
    at true e =
        let mine : c ≡ S = same_colour-true c S e in
        let goes : flat_map go_text (list_if (same_colour c S) (opening r n c))
        ≡ (if nat_lt 0 (length (m.seat S).used) then [] else codes "go" ∷ []) =
        ap (λ (b : Bool). flat_map go_text (list_if b (opening r n c))) e ∙ opening_goes r n c
        ∙ ap (λ (d : Colour). if nat_lt 0 (length (m.seat d).used) then [] else codes "go" ∷ []) mine in
        told_by true _ e (ap (λ z. length (X ++ z)) goes ∙ own (nat_lt 0 (length (m.seat S).used)) refl count)

-- S has moved
some : (us : List ℕ) (u : ℕ) → nat_lt 0 (length (us ++ u ∷ [])) ≡ true
some us u = let longer = length-append us (u ∷ []) in grind (arith, nat_tests, longer)

-- a move of C, after which S was sent as many as its moves say
played : (C S : Colour) (opened : ℕ) (move : Move) (used : ℕ) (m : Match) (k : ℕ)
    → Counts S (BeforeMove C opened) (m.seat S).used k → Counts S (AfterMove C) ((moved C move used m).seat S).used k
played White White opened move used m k e = e ∙ sym (ap one_if (some (m.seat White).used used))
played Black Black opened move used m k e = e ∙ sym (ap one_if (some (m.seat Black).used used))
played White Black opened move used m k e = e
played Black White opened move used m k e = e

-- a side without a move was sent none
at_first : (n k : ℕ) → n ≡ 0 → k ≡ 0 → k ≡ one_if (nat_lt 0 n)
at_first zero k e h = h
at_first (suc n) k e h = absurd (omega (arith, e))

module _ (r : Rules) (S : Colour) where
  -- any line keeps the invariant
  line : (C : Colour) (kind : LineKind) (moment : ℕ) (m : Match) (X : List (List ℕ)) → awaits_line m.phase C ≡ true
      → Kept r m → Told S m X
      → Told S (line_row r m.phase kind moment m).after
      (X ++ flat_map go_text ((line_row r m.phase kind moment m).to S))
  line C kind moment m X aw kept told =
      line_cases r C kind moment m (λ e. Told S e.after (X ++ flat_map go_text (e.to S))) aw (λ since.
      let n : Match = record m { since = since } in record {
        handshake_stops = λ p reason k most w. ends_told S m.phase (m.seat S).used _ reason X _
            (answered (same_colour C S) _ _ (end_goes r (record (said_by C kind n) { count = k }) reason S)) told;
        handshake_counts = λ p d few. no_more S (Handshake C) m.phase (m.seat S).used _ X _
            (answered (same_colour C S) _ [] refl) (told_as (Handshake C) p)
            (λ c. subst (λ q. Counts S q ((said_by C kind n).seat S).used (length X)) (sym p) c);
        handshake_next = λ p s d. no_more S (Handshake C) (Handshake Black) (m.seat S).used _ X _
            (answered (same_colour C S) _ _ (if_none (same_colour Black S) handshake_lines refl))
            (told_as (Handshake C) p) (λ c. c);
        handshake_last = λ p s d. no_more S (Handshake C) (Setup White) (m.seat S).used _ X _
            (answered (same_colour C S) _ _ (if_none (same_colour White S) (setup_lines r White) (setup_goes r White)))
            (told_as (Handshake C) p) (λ c. c);
        setup_counts = λ p pong few. no_more S m.phase m.phase (m.seat S).used _ X [] refl told (λ c. c);
        setup_next = λ p s pong. no_more S (Setup C) (Setup Black) (m.seat S).used _ X _
            (if_none (same_colour Black S) (setup_lines r Black) (setup_goes r Black)) (told_as (Setup C) p) (λ c. c);
        setup_last = λ p s pong v d. turn_opened r S r.start.side n X
            (at_first (length (m.seat S).used) (length X) (unused p) (told_as (Setup C) p).count);
        setup_draws = λ p claim v d. ends_told S m.phase (m.seat S).used _ _ X _ (end_goes r n (Claimed claim) S) told;
        setup_decides = λ p v e. ends_told S m.phase (m.seat S).used _ _ X _ (end_goes r n (Decided v) S) told;
        stops = λ done reason w. ends_told S m.phase (m.seat S).used _ reason X _ (end_goes r n reason S) told;
        counts = λ on none few. no_more S m.phase m.phase (m.seat S).used _ X [] refl told (λ c. c);
        offers = λ on none own. no_more S m.phase m.phase (m.seat S).used _ X _ (draw_goes C S n) told
            (λ c. subst (λ us. Counts S m.phase us (length X)) (sym (offered_used C S n)) c);
        plays = λ text move opened is p read room timely v d. no_more S (BeforeMove C opened) (AfterMove C) (m.seat S).used _
            X _ (if_none (same_colour C S) _ refl) (told_as (BeforeMove C opened) p)
            (λ c. played C S opened move (moment - opened) n (length X) c);
        draws = λ text move opened claim is p read room timely v d. ends_told S m.phase (m.seat S).used _ _ X _
            (end_goes r (moved C move (moment - opened) n) (Claimed claim) S) told;
        decides = λ text move opened v is p read room timely e. ends_told S m.phase (m.seat S).used _ _ X _
            (end_goes r (moved C move (moment - opened) n) (Decided v) S) told;
        passes = λ p none. turn_opened r S (other C) n X (told_as (AfterMove C) p).count;
      })
    where
      told_as : (p : Phase) → m.phase ≡ p → ToldIn S p (m.seat S).used X
      told_as p e = subst (λ q. ToldIn S q (m.seat S).used X) e told

      unused : m.phase ≡ Setup C → length (m.seat S).used ≡ 0
      unused p = kept.1 S ∙ ap (λ (ms : List Move). turns_of S r.start.side ms) (turn_in r m (Setup C) p kept)

  tells : Tells go_text r S (Told S)
  tells = record {
    line = line;
    stops = λ m reason X Y on told. over_told S m.phase (m.seat S).used _ reason X Y _ (end_goes r m reason S) told;
    waits = λ m since X told. told;
    opened = λ m C k X e told. record {
      few = told.few;
      count = subst (λ q. Counts S q (m.seat S).used (length X)) e told.count;
    };
  }

-- the invariant holds at the beginning
begun : (S : Colour) → Told S beginning.after (flat_map go_text (beginning.to S))
begun White = record { few = omega arith; count = refl }
begun Black = record { few = omega arith; count = refl }

pub go_is_sent_once : AtEachMoment GoIsSentOnce
go_is_sent_once r H K final g S =
    told_at go_text r S (Told S) (tells r S) (λ m X. length X ≤ 1) H K final
    (λ m due q X told. let l = length-append X (flat_map go_text (lines_due S due)) in
    let few = told.few in omega (arith, l, few)) g (begun S)

pub was_sent_go : AtEachOpening WasSentGo
was_sent_go r before after S moment final g =
    told_at go_text r S (Told S) (tells r S) (λ m X. length X ≡ 1) before (Happens (Opened S moment) ∷ after) final at g
    (begun S)
  where
    at : (m : Match) (due : List Block) → IsMatchFrom r m due (Happens (Opened S moment) ∷ after) final
        → (X : List (List ℕ)) → Told S m (X ++ flat_map go_text (lines_due S due)) → length X ≡ 1
    at m (b ∷ due) q X told = absurd q
    at m [] (phase, q) X told =
        let count = subst (λ p. Counts S p (m.seat S).used (length (X ++ []))) phase told.count in
        ap length (sym (append-nil X)) ∙ count
        ∙ ap (λ (b : Bool). one_if (b || nat_lt 0 (length (m.seat S).used))) (same_colour-self S)
