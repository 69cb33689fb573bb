-- At each moment each move that an engine was sent (also in a block that could not be sent) has `usermove` before it,
-- if the engine has that feature on, and otherwise none has. By the scheme of Tellings: the invariant (`SentTo`), which
-- each event keeps (`tells`), says that no move is sent in a handshake, and each later one as asked.
use Rattle.std.proofs.Common.{◌≡◌, ◌∙◌, ℕ, ◌-◌, Bool, true, false, List, [], ◌∷◌, ◌++◌, length, refl, sym, ap, subst, append-nil, arith, ◌/◌, codes, if◌then◌else◌, nat_lt}
use Rattle.std.specs.List.{AllByRecursion, flat_map}
use Rattle.std.proofs.lemmas.Grind.{flat_map-append}
use Rattle.chess_base.specs.{declared.man.Colour.Colour, declared.man.Colour.TheVariants.White, declared.man.Colour.TheVariants.Black, Men.other, Men.same_colour, Options.list_if}
use Rattle.cecp_engine.specs.{EngineLines.LineKind, Items.Item, Items.takes}
use Rattle.chess_match.specs.{Acts.awaits_line, Effects.answers_to, Reasons.is_write_fault_of, Reasons.reported_reason, Reasons.result_of, Rules.Rules, declared.reason.Reason.Reason, declared.reason.Reason.TheVariants.Claimed, declared.reason.Reason.TheVariants.Decided, laws.Laws.items_in_line}
use Rattle.chess_match.specs.Effects.{Match, Phase, Handshake, Setup, Opening, BeforeMove, AfterMove, Over, beginning, clock, ends, handshake_lines, is_owed_move, line_row, move_line, moved, opening}
use Rattle.chess_match.specs.Lines.{SentLine, Says, Time, Otim, setup_lines}
use Rattle.chess_game.specs.Ends.{result_text, verdict}
use Rattle.chess_match.proofs.shared.LineCases.{line_cases, offering, said_by}
use Rattle.chess_match_laws.specs.{OfActs.AtEachMoment, Handshakes.PrefixesAreAsAsked, Handshakes.prefix_of}
use Rattle.chess_match_laws.proofs.{Givings.lines_due, Points.Kept, Points.moved_items, Points.offered_items, Tellings.Tells, Tellings.told_at}

-- ---- lists

-- each of these is `t`
abbrev Each : Bool → List Bool → Type 0
Each t bs = AllByRecursion (λ (b : Bool). b ≡ t) bs

each-append : (t : Bool) (xs ys : List Bool) → Each t xs → Each t ys → Each t (xs ++ ys)
each-append t [] ys h k = k
each-append t (x ∷ xs) ys (e, h) k = (e, each-append t xs ys h k)

each-front : (t : Bool) (xs ys : List Bool) → Each t (xs ++ ys) → Each t xs
each-front t [] ys h = tt
each-front t (x ∷ xs) ys (e, h) = (e, each-front t xs ys h)

each_none : (t : Bool) (xs : List Bool) → xs ≡ [] → Each t xs
each_none t [] e = tt
each_none t (x ∷ xs) e = absurd (cc)

-- ---- lines

-- no move is among the lines of a setup, nor among answers (`answer_none`) or in an offer (`draw_none`)
setup_none : (r : Rules) (C : Colour) → flat_map prefix_of (setup_lines r C) ≡ []
unfolding setup_lines
setup_none r C = grind (arith, flat_map-append, append-nil)

answer_none : (items : List Item) → flat_map prefix_of (answers_to items) ≡ []
answer_none [] = refl
answer_none (i ∷ items) = answer_none items

draw_none : (C S : Colour) (m : Match) → flat_map prefix_of ((offering C m).to S) ≡ []
draw_none C S m = grind arith

if_none : (b : Bool) (ls : List SentLine) → flat_map prefix_of ls ≡ [] → flat_map prefix_of (list_if b ls) ≡ []
if_none true ls h = h
if_none false ls h = refl

-- whether the engine of S asked for `usermove`
abbrev asked : Colour → Match → Bool
asked S m = takes (codes "usermove") (m.seat S).items

-- a move in an opening is sent as the engine asked
opening_each : (r : Rules) (m : Match) (S : Colour) → Each (asked S m) (flat_map prefix_of (opening r m S))
opening_each r m S =
    at (nat_lt 0 (length m.played)) (takes (codes "time") (m.seat S).items) (nat_lt 0 (length (m.seat S).used))
  where
    at : (some timed late : Bool) → Each (asked S m) (flat_map prefix_of (
        let last = list_if some (move_line r m S ∷ []) in
        let clocks = list_if timed (Time (clock r m S / 10) ∷ Otim (clock r m (other S) / 10) ∷ []) in
        if late then clocks ++ last else last ++ (clocks ++ Says (codes "go") ∷ [])))
    at true true true = (refl, tt)
    at true true false = (refl, tt)
    at true false true = (refl, tt)
    at true false false = (refl, tt)
    at false true true = tt
    at false true false = tt
    at false false true = tt
    at false false false = tt

-- in the opening of a turn of `c`, as it is sent to S
opens_each : (r : Rules) (m : Match) (c S : Colour)
    → Each (asked S m) (flat_map prefix_of (list_if (same_colour c S) (opening r m c)))
opens_each r m White White = opening_each r m White
opens_each r m Black Black = opening_each r m Black
opens_each r m White Black = tt
opens_each r m Black White = tt

-- a move among the end lines is sent as the engine asked
end_each : (r : Rules) (m : Match) (reason : Reason) (S : Colour)
    → Each (asked S m) (flat_map prefix_of ((ends r reason m).to S))
end_each r m reason S =
    at (codes "result " ++ result_text (result_of (reported_reason (verdict r.start m.played) reason)))
    (is_write_fault_of reason S) (is_owed_move m.phase S)
  where
    at : (text : List ℕ) (unwritten owed : Bool) → Each (asked S m) (flat_map prefix_of (if unwritten then []
        else list_if owed (move_line r m S ∷ []) ++ (Says text ∷ Says (codes "quit") ∷ [])))
    at text true owed = tt
    at text false true = (refl, tt)
    at text false false = tt

answered : (b : Bool) (items : List Item) (ls : List SentLine) → flat_map prefix_of ls ≡ []
    → flat_map prefix_of (list_if b (answers_to items) ++ ls) ≡ []
answered b items ls h = flat_map-append prefix_of (list_if b (answers_to items)) ls
    ∙ ap (λ l. l ++ flat_map prefix_of ls) (if_none b (answers_to items) (answer_none items)) ∙ h

answered_each : (t b : Bool) (items : List Item) (ls : List SentLine) → Each t (flat_map prefix_of ls)
    → Each t (flat_map prefix_of (list_if b (answers_to items) ++ ls))
answered_each t b items ls h =
    subst (λ (xs : List Bool). Each t xs) (sym (flat_map-append prefix_of (list_if b (answers_to items)) ls))
    (each-append t (flat_map prefix_of (list_if b (answers_to items))) (flat_map prefix_of ls)
    (each_none t (flat_map prefix_of (list_if b (answers_to items))) (if_none b (answers_to items) (answer_none items)))
    h)

-- ---- steps

-- in a handshake no move was sent yet; later each has the prefix, or has none, as the engine asked
abbrev PrefixedIn : Phase → Bool → List Bool → Type 0
PrefixedIn (Handshake c) t X = X ≡ []
PrefixedIn p t X = Each t X

-- `PrefixedIn` of a match, for the side S
abbrev SentTo : Colour → Match → List Bool → Type 0
SentTo S m X = PrefixedIn m.phase (asked S m) X

-- in each phase all moves sent so far are as asked
any_each : (p : Phase) (t : Bool) (X : List Bool) → PrefixedIn p t X → Each t X
any_each (Handshake c) t X so_far = each_none t X so_far
any_each (Setup c) t X so_far = so_far
any_each (Opening c) t X so_far = so_far
any_each (BeforeMove c opened) t X so_far = so_far
any_each (AfterMove c) t X so_far = so_far
any_each (Over reason) t X so_far = so_far

both_none : (X Z : List Bool) → X ≡ [] → Z ≡ [] → X ++ Z ≡ []
both_none X Z e f = ap (λ (x : List Bool). x ++ Z) e ∙ f

-- with no move more, and the same asked, the invariant stays
keeps : (p : Phase) (t s : Bool) (X Z : List Bool) → Z ≡ [] → t ≡ s → PrefixedIn p t X → PrefixedIn p s (X ++ Z)
keeps p t s X Z none same so_far =
    subst (λ (u : Bool). PrefixedIn p u (X ++ Z)) same
    (subst (λ (Y : List Bool). PrefixedIn p t Y) (sym (ap (λ (z : List Bool). X ++ z) none ∙ append-nil X)) so_far)

-- engines with the same items ask alike for `usermove`
asked_by : (items more : List Item) → items ≡ more → takes (codes "usermove") items ≡ takes (codes "usermove") more
asked_by items more e = ap (λ (is : List Item). takes (codes "usermove") is) e

-- ---- any line

module _ (r : Rules) (S : Colour) where
  -- any line keeps the invariant
  line : (C : Colour) (kind : LineKind) (moment : ℕ) (m : Match) (X : List Bool) → awaits_line m.phase C ≡ true
      → Kept r m → SentTo S m X
      → SentTo S (line_row r m.phase kind moment m).after
      (X ++ flat_map prefix_of ((line_row r m.phase kind moment m).to S))
  line C kind moment m X aw kept so_far =
      line_cases r C kind moment m (λ e. SentTo S e.after (X ++ flat_map prefix_of (e.to S))) aw (λ since.
      let n : Match = record m { since = since } in record {
        handshake_stops = λ p reason k most w.
            let last : Match = record (said_by C kind n) { count = k } in
            each-append (asked S last) X _ (each_none (asked S last) X (as_in (Handshake C) p))
            (answered_each (asked S last) (same_colour C S) (items_in_line kind) ((ends r reason last).to S)
            (end_each r last reason S));
        handshake_counts = λ p d few. subst (λ (q : Phase). PrefixedIn q (asked S (said_by C kind n))
            (X ++ flat_map prefix_of (list_if (same_colour C S) (answers_to (items_in_line kind)) ++ [])))
            (sym p) (both_none X _ (as_in (Handshake C) p) (answered (same_colour C S) (items_in_line kind) [] refl));
        handshake_next = λ p s d. both_none X _ (as_in (Handshake C) p)
            (answered (same_colour C S) (items_in_line kind) (list_if (same_colour Black S) handshake_lines)
            (if_none (same_colour Black S) handshake_lines refl));
        handshake_last = λ p s d. each_none (asked S (said_by C kind n)) _ (both_none X _ (as_in (Handshake C) p)
            (answered (same_colour C S) (items_in_line kind) (list_if (same_colour White S) (setup_lines r White))
            (if_none (same_colour White S) (setup_lines r White) (setup_none r White))));
        setup_counts = λ p pong few. keeps m.phase (asked S m) (asked S m) X [] refl refl so_far;
        setup_next = λ p s pong. keeps (Setup C) (asked S m) (asked S m) X _
            (if_none (same_colour Black S) (setup_lines r Black) (setup_none r Black)) refl (as_in (Setup C) p);
        setup_last = λ p s pong v d. each-append (asked S m) X _ (as_in (Setup C) p) (opens_each r n r.start.side S);
        setup_draws = λ p claim v d.
            each-append (asked S m) X _ (as_in (Setup C) p) (end_each r n (Claimed claim) S);
        setup_decides = λ p v e. each-append (asked S m) X _ (as_in (Setup C) p) (end_each r n (Decided v) S);
        stops = λ done reason w.
            each-append (asked S m) X _ (any_each m.phase (asked S m) X so_far) (end_each r n reason S);
        counts = λ on none few. keeps m.phase (asked S m) (asked S m) X [] refl refl so_far;
        offers = λ on none own. keeps m.phase (asked S m) (asked S (offering C n).after) X _ (draw_none C S n)
            (asked_by (m.seat S).items ((offering C n).after.seat S).items (sym (offered_items C S n))) so_far;
        plays = λ text move opened is p read room timely v d.
            keeps (AfterMove C) (asked S m) (asked S (moved C move (moment - opened) n)) X _
            (if_none (same_colour C S) _ refl)
            (asked_by (m.seat S).items ((moved C move (moment - opened) n).seat S).items
            (sym (moved_items C S move (moment - opened) n))) (as_in (BeforeMove C opened) p);
        draws = λ text move opened claim is p read room timely v d.
            let last : Match = moved C move (moment - opened) n in
            each-append (asked S last) X _ (subst (λ (u : Bool). Each u X)
            (asked_by (m.seat S).items (last.seat S).items (sym (moved_items C S move (moment - opened) n)))
            (as_in (BeforeMove C opened) p)) (end_each r last (Claimed claim) S);
        decides = λ text move opened v is p read room timely e.
            let last : Match = moved C move (moment - opened) n in
            each-append (asked S last) X _ (subst (λ (u : Bool). Each u X)
            (asked_by (m.seat S).items (last.seat S).items (sym (moved_items C S move (moment - opened) n)))
            (as_in (BeforeMove C opened) p)) (end_each r last (Decided v) S);
        passes = λ p none. each-append (asked S m) X _ (as_in (AfterMove C) p) (opens_each r n (other C) S);
      })
    where
      as_in : (p : Phase) → m.phase ≡ p → PrefixedIn p (asked S m) X
      as_in p e = subst (λ (q : Phase). PrefixedIn q (asked S m) X) e so_far

  tells : Tells prefix_of r S (SentTo S)
  tells = record {
    line = line;
    stops = λ m reason X Y on so_far. each-append (asked S m) X _
        (each-front (asked S m) X Y (any_each m.phase (asked S m) (X ++ Y) so_far)) (end_each r m reason S);
    waits = λ m since X so_far. so_far;
    opened = λ m C k X e so_far. subst (λ (q : Phase). PrefixedIn q (asked S m) X) e so_far;
  }

-- the invariant holds at the beginning
begun : (S : Colour) → SentTo S beginning.after (flat_map prefix_of (beginning.to S))
begun White = refl
begun Black = refl

pub prefixes_are_as_asked : AtEachMoment PrefixesAreAsAsked
prefixes_are_as_asked r H K final g S =
    told_at prefix_of r S (SentTo S) (tells r S) (λ m X. Each (asked S m) X) H K final
    (λ m due q X so_far. each-front (asked S m) X (flat_map prefix_of (lines_due S due))
    (any_each m.phase (asked S m) (X ++ flat_map prefix_of (lines_due S due)) so_far)) g (begun S)
