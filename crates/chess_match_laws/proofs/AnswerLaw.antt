-- Whenever a line of a side is read, each item of its `feature` lines so far was answered by its name, in order
-- (items_are_answered). The invariant (`SentTo`), which each event keeps (`tells`), says that the names answered are
-- those of the items known of the side; and these are the items said (SentByLinesLaw). Which of some names are accepted
-- and which rejected is computed (names_are_known).
use Rattle.std.proofs.Common.{◌≡◌, ◌∙◌, ℕ, ◌-◌, Bool, true, false, List, [], ◌∷◌, ◌++◌, map, refl, sym, ap, subst, append-nil, arith, flat_map, codes, if◌then◌else◌}
use Rattle.std.proofs.{lemmas.Grind.flat_map-append, lemmas.List.map-append}
use Rattle.chess_base.specs.{declared.man.Colour.Colour, declared.man.Colour.TheVariants.White, declared.man.Colour.TheVariants.Black, Men.other, Men.same_colour, Options.list_if}
use Rattle.cecp_engine.specs.{EngineLines.LineKind, Items.Item, Items.has_word, Items.is_known}
use Rattle.chess_match.specs.Acts.{Block, Happens, IsMatchFrom, awaits_line}
use Rattle.chess_match.specs.Effects.{Match, Phase, Handshake, Setup, Opening, BeforeMove, AfterMove, Over, beginning, handshake_lines, line_row, moved, opening}
use Rattle.chess_match.specs.{Events.Line, Effects.answers_to, Lines.SentLine, Lines.Says, Lines.setup_lines, Rules.Rules, laws.Laws.items_in_line}
use Rattle.chess_match.proofs.shared.LineCases.{line_cases, offering, said_by}
use Rattle.chess_match_laws.specs.{OfActs.AtEachLine, Handshakes.ItemsAreAnswered, Handshakes.NamesAreKnown, Handshakes.name_answered}
use Rattle.chess_match_laws.proofs.{Givings.lines_due, Points.Kept, Points.moved_items, Points.offered_items, SentByLinesLaw.items_are_said, Tellings.Tells, Tellings.told_at}

-- ---- lines

-- no answer is among the lines of a setup, of an opening (`opening_none`) or of an offer (`draw_none`)
setup_none : (r : Rules) (C : Colour) → flat_map name_answered (setup_lines r C) ≡ []
unfolding setup_lines
setup_none r C = grind (arith, flat_map-append, append-nil)

opening_none : (r : Rules) (m : Match) (S : Colour) → flat_map name_answered (opening r m S) ≡ []
opening_none r m S = grind (arith, flat_map-append, append-nil)

draw_none : (C S : Colour) (m : Match) → flat_map name_answered ((offering C m).to S) ≡ []
draw_none C S m = grind arith

if_none : (b : Bool) (ls : List SentLine) → flat_map name_answered ls ≡ []
    → flat_map name_answered (list_if b ls) ≡ []
if_none true ls h = h
if_none false ls h = refl

-- an answer names its item, known or not
named : (known : Bool) (name : List ℕ)
    → name_answered (Says ((if known then codes "accepted " else codes "rejected ") ++ name)) ≡ name ∷ []
named true name = refl
named false name = refl

-- the answers to items name these items, in order
all_named : (items : List Item) → flat_map name_answered (answers_to items) ≡ map (λ (i : Item). i.name) items
all_named [] = refl
all_named (i ∷ items) =
    ap (λ (l : List (List ℕ)). l ++ flat_map name_answered (answers_to items)) (named (is_known i.name) i.name)
    ∙ ap (λ (l : List (List ℕ)). i.name ∷ l) (all_named items)

-- ---- steps

-- the invariant by phase: the names `X` that were answered are those of these items; after the end nothing is claimed
abbrev AnsweredIn : Phase → List Item → List (List ℕ) → Type 0
AnsweredIn (Over reason) items X = Unit {0}
AnsweredIn p items X = X ≡ map (λ (i : Item). i.name) items

-- the invariant of a match, for the side S
abbrev SentTo : Colour → Match → List (List ℕ) → Type 0
SentTo S m X = AnsweredIn m.phase (m.seat S).items X

-- what is sent has no answer (`Z`)
same : (X Z : List (List ℕ)) → Z ≡ [] → X ≡ X ++ Z
same X Z none = sym (ap (λ (z : List (List ℕ)). X ++ z) none ∙ append-nil X)

-- with no answer more and the same items the invariant stays (`stays`: the same, in a phase that is not the end)
keeps : (p : Phase) (items more : List Item) (X Z : List (List ℕ)) → Z ≡ [] → items ≡ more → AnsweredIn p items X
    → AnsweredIn p more (X ++ Z)
keeps p items more X Z none is so_far =
    subst (λ (js : List Item). AnsweredIn p js (X ++ Z)) is
    (subst (λ (Y : List (List ℕ)). AnsweredIn p items Y) (same X Z none) so_far)

stays : (X Z : List (List ℕ)) (items more : List Item) → Z ≡ [] → items ≡ more → X ≡ map (λ (i : Item). i.name) items
    → X ++ Z ≡ map (λ (i : Item). i.name) more
stays X Z items more none is so_far =
    sym (same X Z none) ∙ so_far ∙ ap (λ (js : List Item). map (λ (i : Item). i.name) js) is

-- the items `its` of a line were added, and their answers are sent first
answers_more : (X : List (List ℕ)) (items its : List Item) (rest : List SentLine) → flat_map name_answered rest ≡ []
    → X ≡ map (λ (i : Item). i.name) items
    → X ++ flat_map name_answered (answers_to its ++ rest) ≡ map (λ (i : Item). i.name) (items ++ its)
answers_more X items its rest none so_far =
    ap (λ (z : List (List ℕ)). X ++ z)
    (flat_map-append name_answered (answers_to its) rest
    ∙ ap (λ (z : List (List ℕ)). flat_map name_answered (answers_to its) ++ z) none
    ∙ append-nil (flat_map name_answered (answers_to its)) ∙ all_named its)
    ∙ ap (λ (Y : List (List ℕ)). Y ++ map (λ (i : Item). i.name) its) so_far
    ∙ sym (map-append (λ (i : Item). i.name) items its)

-- the items stay, and what is sent has no answer
answers_none : (X : List (List ℕ)) (items : List Item) (rest : List SentLine) → flat_map name_answered rest ≡ []
    → X ≡ map (λ (i : Item). i.name) items → X ++ flat_map name_answered rest ≡ map (λ (i : Item). i.name) items
answers_none X items rest none so_far = sym (same X (flat_map name_answered rest) none) ∙ so_far

-- C said these items, and its engine was sent answers
said : (C S : Colour) (kind : LineKind) (m : Match) (X : List (List ℕ)) (rest : List SentLine)
    → flat_map name_answered rest ≡ [] → X ≡ map (λ (i : Item). i.name) (m.seat S).items
    → X ++ flat_map name_answered (list_if (same_colour C S) (answers_to (items_in_line kind)) ++ rest)
    ≡ map (λ (i : Item). i.name) ((said_by C kind m).seat S).items
said White White kind m X rest none so_far =
    answers_more X (m.seat White).items (items_in_line kind) rest none so_far
said Black Black kind m X rest none so_far =
    answers_more X (m.seat Black).items (items_in_line kind) rest none so_far
said White Black kind m X rest none so_far = answers_none X (m.seat Black).items rest none so_far
said Black White kind m X rest none so_far = answers_none X (m.seat White).items rest none so_far

-- ---- any line

module _ (r : Rules) (S : Colour) where
  -- any line keeps the invariant
  line : (C : Colour) (kind : LineKind) (moment : ℕ) (m : Match) (X : List (List ℕ)) → awaits_line m.phase C ≡ true
      → Kept r m → SentTo S m X
      → SentTo S (line_row r m.phase kind moment m).after
      (X ++ flat_map name_answered ((line_row r m.phase kind moment m).to S))
  line C kind moment m X aw kept so_far =
      line_cases r C kind moment m (λ e. SentTo S e.after (X ++ flat_map name_answered (e.to S))) aw (λ since.
      let n : Match = record m { since = since } in record {
        handshake_stops = λ p reason k most w. tt;
        handshake_counts = λ p d few. subst (λ (q : Phase). AnsweredIn q ((said_by C kind n).seat S).items
            (X ++ flat_map name_answered (list_if (same_colour C S) (answers_to (items_in_line kind)) ++ [])))
            (sym p) (said C S kind n X [] refl (as_in (Handshake C) p));
        handshake_next = λ p s d. said C S kind n X (list_if (same_colour Black S) handshake_lines)
            (if_none (same_colour Black S) handshake_lines refl) (as_in (Handshake C) p);
        handshake_last = λ p s d. said C S kind n X (list_if (same_colour White S) (setup_lines r White))
            (if_none (same_colour White S) (setup_lines r White) (setup_none r White)) (as_in (Handshake C) p);
        setup_counts = λ p pong few. keeps m.phase (m.seat S).items (m.seat S).items X [] refl refl so_far;
        setup_next = λ p s pong. stays X _ (m.seat S).items (m.seat S).items
            (if_none (same_colour Black S) (setup_lines r Black) (setup_none r Black)) refl (as_in (Setup C) p);
        setup_last = λ p s pong v d. stays X _ (m.seat S).items (m.seat S).items
            (if_none (same_colour r.start.side S) (opening r n r.start.side) (opening_none r n r.start.side)) refl
            (as_in (Setup C) p);
        setup_draws = λ p claim v d. tt;
        setup_decides = λ p v e. tt;
        stops = λ done reason w. tt;
        counts = λ on none few. keeps m.phase (m.seat S).items (m.seat S).items X [] refl refl so_far;
        offers = λ on none own. keeps m.phase (m.seat S).items ((offering C n).after.seat S).items X _
            (draw_none C S n) (sym (offered_items C S n)) so_far;
        plays = λ text move opened is p read room timely v d. stays X _ (m.seat S).items
            ((moved C move (moment - opened) n).seat S).items (if_none (same_colour C S) _ refl)
            (sym (moved_items C S move (moment - opened) n)) (as_in (BeforeMove C opened) p);
        draws = λ text move opened claim is p read room timely v d. tt;
        decides = λ text move opened v is p read room timely e. tt;
        passes = λ p none. stays X _ (m.seat S).items (m.seat S).items
            (if_none (same_colour (other C) S) (opening r n (other C)) (opening_none r n (other C))) refl
            (as_in (AfterMove C) p);
      })
    where
      as_in : (p : Phase) → m.phase ≡ p → AnsweredIn p (m.seat S).items X
      as_in p e = subst (λ (q : Phase). AnsweredIn q (m.seat S).items X) e so_far

  tells : Tells name_answered r S (SentTo S)
  tells = record {
    line = line;
    stops = λ m reason X Y on so_far. tt;
    waits = λ m since X so_far. so_far;
    opened = λ m C k X e so_far. subst (λ (q : Phase). AnsweredIn q (m.seat S).items X) e so_far;
  }

-- the invariant holds at the beginning
begun : (S : Colour) → SentTo S beginning.after (flat_map name_answered (beginning.to S))
begun White = refl
begun Black = refl

pub items_are_answered : AtEachLine ItemsAreAnswered
items_are_answered r before after S text moment final g =
    told_at name_answered r S (SentTo S) (tells r S) (λ m X. X ≡ map (λ (i : Item). i.name) (m.seat S).items)
    before (Happens (Line S text moment) ∷ after) final at g (begun S)
    ∙ ap (λ (js : List Item). map (λ (i : Item). i.name) js)
    (items_are_said r before (Happens (Line S text moment) ∷ after) final g S)
  where
    in_phase : (p : Phase) (items : List Item) (X : List (List ℕ)) → awaits_line p S ≡ true → AnsweredIn p items X
        → X ≡ map (λ (i : Item). i.name) items
    in_phase (Handshake c) items X aw so_far = so_far
    in_phase (Setup c) items X aw so_far = so_far
    in_phase (Opening c) items X aw so_far = so_far
    in_phase (BeforeMove c opened) items X aw so_far = so_far
    in_phase (AfterMove c) items X aw so_far = so_far
    in_phase (Over reason) items X aw so_far = absurd (cc)

    at : (m : Match) (due : List Block) → IsMatchFrom r m due (Happens (Line S text moment) ∷ after) final
        → (X : List (List ℕ)) → SentTo S m (X ++ flat_map name_answered (lines_due S due))
        → X ≡ map (λ (i : Item). i.name) (m.seat S).items
    at m (b ∷ due) q X so_far = absurd q
    at m [] (aw, q) X so_far = in_phase m.phase (m.seat S).items X aw (subst (SentTo S m) (append-nil X) so_far)

pub names_are_known : NamesAreKnown
unfolding has_word is_known
names_are_known = record { accepted = refl; rejected = refl }
