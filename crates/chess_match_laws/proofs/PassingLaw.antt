-- Whenever a line of a side is read while the other side's offer of a draw is open, the side was sent `draw`, if its
-- engine takes it (offers_are_passed_on); and at each moment it was sent at most one `draw` more than it has made moves
-- (draws_are_few). By the scheme of Tellings: the invariant (`SentTo`), which each event keeps (`tells`), allows one
-- more only while such an offer is open. First, lemmas on lines that are no `draw`.
use Rattle.std.proofs.Common.{◌≡◌, ◌∙◌, ℕ, ◌+◌, ◌-◌, ◌≤◌, Bool, true, false, List, [], ◌∷◌, ◌++◌, length, length-append, refl, sym, ap, subst, append-nil, arith, codes, flat_map}
use Rattle.std.proofs.lemmas.Grind.{flat_map-append}
use Rattle.chess_base.specs.{declared.man.Colour.Colour, declared.man.Colour.TheVariants.White, declared.man.Colour.TheVariants.Black, declared.man.Move.Move, Men.other, Men.same_colour, Options.list_if}
use Rattle.cecp_engine.specs.{EngineLines.LineKind, Items.Item, Items.takes}
use Rattle.chess_match.specs.Acts.{Block, Happens, IsMatchFrom, awaits_line}
use Rattle.chess_match.specs.Effects.{Match, Phase, Handshake, Setup, Opening, BeforeMove, AfterMove, Over, beginning, ends, handshake_lines, line_row, moved, opening}
use Rattle.chess_match.specs.{Events.Line, Effects.answers_to, Lines.SentLine, Lines.Says, Lines.setup_lines, Rules.Rules, declared.reason.Reason.Reason, declared.reason.Reason.TheVariants.Claimed, declared.reason.Reason.TheVariants.Decided}
use Rattle.chess_match.proofs.shared.LineCases.{in_turn, line_cases, offering, said_by, said_used}
use Rattle.chess_match.proofs.shared.MatchCases.{both_not}
use Rattle.chess_match_laws.specs.{OfActs.AtEachLine, OfActs.AtEachMoment, Rows.DrawsAreFew, Rows.OffersArePassedOn, Rows.draw_text}
use Rattle.chess_match_laws.proofs.{Givings.lines_due, OfferLaw.said_offers, Points.Kept, Tellings.Tells, Tellings.told_at}

-- ---- lines

-- no `draw` is among the lines of a setup, nor among answers (`answer_none`), nor in an opening or an end
pub setup_none : (r : Rules) (C : Colour) → flat_map draw_text (setup_lines r C) ≡ []
unfolding setup_lines
setup_none r C = grind (arith, flat_map-append, append-nil)

pub answer_none : (items : List Item) → flat_map draw_text (answers_to items) ≡ []
answer_none [] = refl
answer_none (i ∷ items) = grind (arith, answer_none items)

pub opening_none : (r : Rules) (m : Match) (S : Colour) → flat_map draw_text (opening r m S) ≡ []
opening_none r m S = grind (arith, flat_map-append, append-nil)

pub end_none : (r : Rules) (m : Match) (reason : Reason) (S : Colour)
    → flat_map draw_text ((ends r reason m).to S) ≡ []
end_none r m reason S = grind arith

pub if_none : (b : Bool) (ls : List SentLine) → flat_map draw_text ls ≡ [] → flat_map draw_text (list_if b ls) ≡ []
if_none true ls h = h
if_none false ls h = refl

pub answered : (b : Bool) (items : List Item) (ls : List SentLine) → flat_map draw_text ls ≡ []
    → flat_map draw_text (list_if b (answers_to items) ++ ls) ≡ []
answered b items ls h = flat_map-append draw_text (list_if b (answers_to items)) ls
    ∙ ap (λ l. l ++ flat_map draw_text ls) (if_none b (answers_to items) (answer_none items)) ∙ h

-- ---- how many

abbrev one_if : Bool → ℕ
one_if true = 1
one_if false = 0

at_most_one : (b : Bool) → one_if b ≤ 1
at_most_one true = omega arith
at_most_one false = omega arith

-- in this phase, with the other side's offer open or not (`offers`), and for a side that takes `draw` or not
-- (`takes_it`): the `draw` that it was sent (`X`) are at least one, if it takes them and an offer is open
abbrev Passed : Phase → Bool → Bool → List (List ℕ) → Type 0
Passed (Handshake c) offers takes_it X = offers ≡ false
Passed (Setup c) offers takes_it X = offers ≡ false
Passed (Over reason) offers takes_it X = Unit {0}
Passed p offers takes_it X = offers ≡ true → takes_it ≡ true → 1 ≤ length X

-- `X`, the `draw` that S was sent, are at most as many as its moves (`made`), and one more while the other side's offer
-- is open; and they are as `Passed` says
record SentIn (p : Phase) (made : ℕ) (offers takes_it : Bool) (X : List (List ℕ)) : Type 0 where
  few : length X ≤ made + one_if offers
  passed : Passed p offers takes_it X

-- whether the engine of S takes `draw`
abbrev takes_draw : Colour → Match → Bool
takes_draw S m = takes (codes "draw") (m.seat S).items

-- `SentIn` of a match, for the side S
abbrev SentTo : Colour → Match → List (List ℕ) → Type 0
SentTo S m X = SentIn m.phase (length (m.seat S).used) (m.seat (other S)).offers (takes_draw S m) X

-- ---- steps

-- no `draw` more, no move, and no other offer
keeps : (p q : Phase) (n k : ℕ) (o w t s : Bool) (X Z : List (List ℕ)) → Z ≡ [] → k ≡ n → w ≡ o → SentIn p n o t X
    → (Passed p o t X → Passed q w s X) → SentIn q k w s (X ++ Z)
keeps p q n k o w t s X Z none moves offers so_far next =
    let same : X ≡ X ++ Z = sym (ap (λ z. X ++ z) none ∙ append-nil X) in
    subst (SentIn q k w s) same (record {
      few = subst (λ (i : ℕ). length X ≤ i + one_if w) (sym moves)
          (subst (λ (b : Bool). length X ≤ n + one_if b) (sym offers) so_far.few);
      passed = next so_far.passed;
    })

-- one move more, by which the offer is no longer open
one_move : (us : List ℕ) (u k : ℕ) (b : Bool) → k ≤ length us + one_if b → k ≤ length (us ++ u ∷ []) + 0
one_move us u k b h =
    let l : length (us ++ u ∷ []) ≡ length us + 1 = length-append us (u ∷ []) in
    let one = at_most_one b in omega (arith, l, one, h)

-- a move of C keeps the bound on the number of `draw`
moved_few : (C S : Colour) (move : Move) (used : ℕ) (m : Match) (k : ℕ)
    → k ≤ length (m.seat S).used + one_if (m.seat (other S)).offers
    → k ≤ length ((moved C move used m).seat S).used + one_if ((moved C move used m).seat (other S)).offers
moved_few White White move used m k h = one_move (m.seat White).used used k (m.seat Black).offers h
moved_few Black Black move used m k h = one_move (m.seat Black).used used k (m.seat White).offers h
moved_few White Black move used m k h = h
moved_few Black White move used m k h = h

-- a move of C keeps what `Passed` says
moved_passed : (C S : Colour) (opened : ℕ) (move : Move) (used : ℕ) (m : Match) (X : List (List ℕ))
    → Passed (BeforeMove C opened) (m.seat (other S)).offers (takes_draw S m) X
    → Passed (AfterMove C) ((moved C move used m).seat (other S)).offers (takes_draw S (moved C move used m)) X
moved_passed White White opened move used m X h = λ e t. absurd (let f : false ≡ true = e in cc)
moved_passed Black Black opened move used m X h = λ e t. absurd (let f : false ≡ true = e in cc)
moved_passed White Black opened move used m X h = h
moved_passed Black White opened move used m X h = h

-- a move of C, after which the match is in the phase `q`
played : (C S : Colour) (q : Phase) (move : Move) (used : ℕ) (m : Match) (X Z : List (List ℕ)) → Z ≡ []
    → SentTo S m X
    → Passed q ((moved C move used m).seat (other S)).offers (takes_draw S (moved C move used m)) X
    → SentIn q (length ((moved C move used m).seat S).used) ((moved C move used m).seat (other S)).offers
    (takes_draw S (moved C move used m)) (X ++ Z)
played C S q move used m X Z none so_far passed =
    let same : X ≡ X ++ Z = sym (ap (λ z. X ++ z) none ∙ append-nil X) in
    let n : Match = moved C move used m in
    subst (SentIn q (length (n.seat S).used) (n.seat (other S)).offers (takes_draw S n)) same (record {
      few = moved_few C S move used m (length X) so_far.few;
      passed = passed;
    })

-- one `draw` more, or none
one_draw : (X : List (List ℕ)) (n : ℕ) → length X ≤ n + 0 → length (X ++ codes "draw" ∷ []) ≤ n + 1
one_draw X n h =
    let l : length (X ++ codes "draw" ∷ []) ≡ length X + 1 = length-append X (codes "draw" ∷ []) in omega (arith, l, h)

no_draw : (X : List (List ℕ)) (n : ℕ) → length X ≤ n + 0 → length (X ++ []) ≤ n + 1
no_draw X n h = let l : length (X ++ []) ≡ length X = ap length (append-nil X) in omega (arith, l, h)

some_draw : (X : List (List ℕ)) → 1 ≤ length (X ++ codes "draw" ∷ [])
some_draw X =
    let l : length (X ++ codes "draw" ∷ []) ≡ length X + 1 = length-append X (codes "draw" ∷ []) in omega (arith, l)

-- the other side's offer is passed on to a side that takes `draw`
passes_on : (t : Bool) (p : Phase) (n : ℕ) (X : List (List ℕ)) → in_turn p ≡ true → length X ≤ n + 0
    → SentIn p n true t (X ++ flat_map draw_text (list_if t (Says (codes "draw") ∷ [])))
passes_on true (BeforeMove c opened) n X on h = record { few = one_draw X n h; passed = λ e t. some_draw X }
passes_on true (AfterMove c) n X on h = record { few = one_draw X n h; passed = λ e t. some_draw X }
passes_on false (BeforeMove c opened) n X on h =
    record { few = no_draw X n h; passed = λ e t. absurd (let f : false ≡ true = t in cc) }
passes_on false (AfterMove c) n X on h =
    record { few = no_draw X n h; passed = λ e t. absurd (let f : false ≡ true = t in cc) }
passes_on t (Handshake c) n X on h = absurd (cc)
passes_on t (Setup c) n X on h = absurd (cc)
passes_on t (Opening c) n X on h = absurd (cc)
passes_on t (Over reason) n X on h = absurd (cc)

-- while no offer is open the bound is the number of moves
not_open : (X : List (List ℕ)) (n : ℕ) (b : Bool) → b ≡ false → length X ≤ n + one_if b → length X ≤ n + 0
not_open X n false e h = h
not_open X n true e h = absurd (cc)

-- an offer of C keeps the invariant: it is passed on to the other side
offered : (C S : Colour) (m : Match) (X : List (List ℕ)) → in_turn m.phase ≡ true → (m.seat C).offers ≡ false
    → SentTo S m X → SentTo S (offering C m).after (X ++ flat_map draw_text ((offering C m).to S))
offered White White m X on own so_far =
    keeps m.phase m.phase (length (m.seat White).used) (length (m.seat White).used) (m.seat Black).offers
    (m.seat Black).offers (takes_draw White m) (takes_draw White m) X [] refl refl refl so_far (λ c. c)
offered Black Black m X on own so_far =
    keeps m.phase m.phase (length (m.seat Black).used) (length (m.seat Black).used) (m.seat White).offers
    (m.seat White).offers (takes_draw Black m) (takes_draw Black m) X [] refl refl refl so_far (λ c. c)
offered Black White m X on own so_far =
    passes_on (takes_draw White m) m.phase (length (m.seat White).used) X on
    (not_open X (length (m.seat White).used) (m.seat Black).offers own so_far.few)
offered White Black m X on own so_far =
    passes_on (takes_draw Black m) m.phase (length (m.seat Black).used) X on
    (not_open X (length (m.seat Black).used) (m.seat White).offers own so_far.few)

-- ---- any line

module _ (r : Rules) (S : Colour) where
  -- any line keeps the invariant (`SentTo`)
  line : (C : Colour) (kind : LineKind) (moment : ℕ) (m : Match) (X : List (List ℕ)) → awaits_line m.phase C ≡ true
      → Kept r m → SentTo S m X
      → SentTo S (line_row r m.phase kind moment m).after
      (X ++ flat_map draw_text ((line_row r m.phase kind moment m).to S))
  line C kind moment m X aw kept so_far =
      line_cases r C kind moment m (λ e. SentTo S e.after (X ++ flat_map draw_text (e.to S))) aw (λ since.
      let n : Match = record m { since = since } in record {
        handshake_stops = λ p reason k most w. said_on m.phase (Over reason) n X _
            (answered (same_colour C S) _ _ (end_none r (record (said_by C kind n) { count = k }) reason S)) so_far
            (λ c. tt);
        handshake_counts = λ p d few. said_on (Handshake C) m.phase n X _ (answered (same_colour C S) _ [] refl)
            (as_in (Handshake C) p)
            (λ c. subst (λ q. Passed q ((said_by C kind n).seat (other S)).offers (takes_draw S (said_by C kind n)) X)
            (sym p) (said_offers C (other S) kind n ∙ c));
        handshake_next = λ p s d. said_on (Handshake C) (Handshake Black) n X _
            (answered (same_colour C S) _ _ (if_none (same_colour Black S) handshake_lines refl))
            (as_in (Handshake C) p) (λ c. said_offers C (other S) kind n ∙ c);
        handshake_last = λ p s d. said_on (Handshake C) (Setup White) n X _
            (answered (same_colour C S) _ _ (if_none (same_colour White S) (setup_lines r White) (setup_none r White)))
            (as_in (Handshake C) p) (λ c. said_offers C (other S) kind n ∙ c);
        setup_counts = λ p pong few. stays_on m.phase m.phase n X [] refl so_far (λ c. c);
        setup_next = λ p s pong. stays_on (Setup C) (Setup Black) n X _
            (if_none (same_colour Black S) (setup_lines r Black) (setup_none r Black)) (as_in (Setup C) p) (λ c. c);
        setup_last = λ p s pong v d. stays_on (Setup C) (Opening r.start.side) n X _
            (if_none (same_colour r.start.side S) (opening r n r.start.side) (opening_none r n r.start.side))
            (as_in (Setup C) p) (λ none on t. both_not (m.seat (other S)).offers none on);
        setup_draws = λ p claim v d. stays_on m.phase (Over (Claimed claim)) n X _
            (end_none r n (Claimed claim) S) so_far (λ c. tt);
        setup_decides = λ p v e. stays_on m.phase (Over (Decided v)) n X _ (end_none r n (Decided v) S) so_far
            (λ c. tt);
        stops = λ done reason w. stays_on m.phase (Over reason) n X _ (end_none r n reason S) so_far (λ c. tt);
        counts = λ on none few. stays_on m.phase m.phase n X [] refl so_far (λ c. c);
        offers = λ on none own. offered C S n X on own so_far;
        plays = λ text move opened is p read room timely v d.
            played C S (AfterMove C) move (moment - opened) n X _ (if_none (same_colour C S) _ refl) so_far
            (moved_passed C S opened move (moment - opened) n X (as_in (BeforeMove C opened) p).passed);
        draws = λ text move opened claim is p read room timely v d.
            played C S (Over (Claimed claim)) move (moment - opened) n X _
            (end_none r (moved C move (moment - opened) n) (Claimed claim) S) so_far tt;
        decides = λ text move opened v is p read room timely e.
            played C S (Over (Decided v)) move (moment - opened) n X _
            (end_none r (moved C move (moment - opened) n) (Decided v) S) so_far tt;
        passes = λ p none. stays_on (AfterMove C) (Opening (other C)) n X _
            (if_none (same_colour (other C) S) (opening r n (other C)) (opening_none r n (other C)))
            (as_in (AfterMove C) p) (λ c. c);
      })
    where
      as_in : (p : Phase) → m.phase ≡ p
          → SentIn p (length (m.seat S).used) (m.seat (other S)).offers (takes_draw S m) X
      as_in p e =
          subst (λ q. SentIn q (length (m.seat S).used) (m.seat (other S)).offers (takes_draw S m) X) e so_far

      -- the seats are as they were
      stays_on : (p q : Phase) (n : Match) (X Z : List (List ℕ)) → Z ≡ []
          → SentIn p (length (n.seat S).used) (n.seat (other S)).offers (takes_draw S n) X
          → (Passed p (n.seat (other S)).offers (takes_draw S n) X
          → Passed q (n.seat (other S)).offers (takes_draw S n) X)
          → SentIn q (length (n.seat S).used) (n.seat (other S)).offers (takes_draw S n) (X ++ Z)
      stays_on p q n X Z none so_far next =
          keeps p q (length (n.seat S).used) (length (n.seat S).used) (n.seat (other S)).offers
          (n.seat (other S)).offers (takes_draw S n) (takes_draw S n) X Z none refl refl so_far next

      -- C said more items
      said_on : (p q : Phase) (n : Match) (X Z : List (List ℕ)) → Z ≡ []
          → SentIn p (length (n.seat S).used) (n.seat (other S)).offers (takes_draw S n) X
          → (Passed p (n.seat (other S)).offers (takes_draw S n) X
          → Passed q ((said_by C kind n).seat (other S)).offers (takes_draw S (said_by C kind n)) X)
          → SentIn q (length ((said_by C kind n).seat S).used) ((said_by C kind n).seat (other S)).offers
          (takes_draw S (said_by C kind n)) (X ++ Z)
      said_on p q n X Z none so_far next =
          keeps p q (length (n.seat S).used) (length ((said_by C kind n).seat S).used) (n.seat (other S)).offers
          ((said_by C kind n).seat (other S)).offers (takes_draw S n) (takes_draw S (said_by C kind n)) X Z none
          (ap length (said_used C S kind n)) (said_offers C (other S) kind n) so_far next

  tells : Tells draw_text r S (SentTo S)
  tells = record {
    line = line;
    stops = λ m reason X Y on so_far. lost m reason X Y _ (end_none r m reason S) so_far;
    waits = λ m since X so_far. so_far;
    opened = λ m C k X e so_far. record {
      few = so_far.few;
      passed = subst (λ q. Passed q (m.seat (other S)).offers (takes_draw S m) X) e so_far.passed;
    };
  }
    where
      -- the match is over, and what was due may be lost
      lost : (m : Match) (reason : Reason) (X Y Z : List (List ℕ)) → Z ≡ [] → SentTo S m (X ++ Y)
          → SentIn (Over reason) (length (m.seat S).used) (m.seat (other S)).offers (takes_draw S m) (X ++ Z)
      lost m reason X Y Z none so_far =
          let same : X ≡ X ++ Z = sym (ap (λ z. X ++ z) none ∙ append-nil X) in
          let l = length-append X Y in
          let few = so_far.few in
          subst (SentIn (Over reason) (length (m.seat S).used) (m.seat (other S)).offers (takes_draw S m)) same
          (record { few = omega (arith, few, l); passed = tt })

-- the invariant holds at the beginning
begun : (S : Colour) → SentTo S beginning.after (flat_map draw_text (beginning.to S))
begun White = record { few = omega arith; passed = refl }
begun Black = record { few = omega arith; passed = refl }

-- ---- the laws

pub draws_are_few : AtEachMoment DrawsAreFew
draws_are_few r H K final g S =
    told_at draw_text r S (SentTo S) (tells r S) (λ m X. length X ≤ length (m.seat S).used + 1) H K final
    (λ m due q X so_far.
    let l = length-append X (flat_map draw_text (lines_due S due)) in
    let few = so_far.few in
    let one = at_most_one (m.seat (other S)).offers in omega (arith, l, few, one)) g (begun S)

pub offers_are_passed_on : AtEachLine OffersArePassedOn
offers_are_passed_on r before after S text moment final g =
    told_at draw_text r S (SentTo S) (tells r S)
    (λ m X. (m.seat (other S)).offers ≡ true → takes (codes "draw") (m.seat S).items ≡ true → 1 ≤ length X)
    before (Happens (Line S text moment) ∷ after) final at g (begun S)
  where
    in_phase : (p : Phase) (o t : Bool) (X : List (List ℕ)) → awaits_line p S ≡ true → Passed p o t X → o ≡ true
        → t ≡ true → 1 ≤ length X
    in_phase (Handshake c) o t X aw so_far e is = both_not o so_far e
    in_phase (Setup c) o t X aw so_far e is = both_not o so_far e
    in_phase (Opening c) o t X aw so_far e is = absurd (cc)
    in_phase (BeforeMove c opened) o t X aw so_far e is = so_far e is
    in_phase (AfterMove c) o t X aw so_far e is = so_far e is
    in_phase (Over reason) o t X aw so_far e is = absurd (cc)

    at : (m : Match) (due : List Block) → IsMatchFrom r m due (Happens (Line S text moment) ∷ after) final
        → (X : List (List ℕ)) → SentTo S m (X ++ flat_map draw_text (lines_due S due))
        → (m.seat (other S)).offers ≡ true → takes (codes "draw") (m.seat S).items ≡ true → 1 ≤ length X
    at m (b ∷ due) q X so_far = absurd q
    at m [] (aw, q) X so_far = in_phase m.phase _ _ X aw (subst (SentTo S m) (append-nil X) so_far).passed
