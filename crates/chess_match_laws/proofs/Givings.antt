-- A scheme for laws such as MoveLaw and TimeLaw: what an engine O was sent by one kind of line (`f` takes it out of a
-- line, such as the text of a move) is, in order, all that the match says (`all`), but for at most one that is not sent
-- yet (`rest`). If a law shows what each event adds and sends (`Gives`), it holds at each moment (`given_at`).
use Rattle.std.proofs.Common.{◌≡◌, ℕ, ◌+◌, ◌-◌, ◌≤◌, ◌<◌, Bool, true, false, List, [], ◌∷◌, ◌++◌, length, length-append, refl, ap, sym, ◌∙◌, subst, append-nil, append_assoc, Option, arith, if◌then◌else◌, flat_map}
use Rattle.std.proofs.lemmas.Grind.{flat_map-append}
use Rattle.chess_base.specs.{declared.man.Colour.Colour, declared.man.Colour.TheVariants.White, declared.man.Colour.TheVariants.Black, declared.man.Move.Move, Men.other, Men.same_colour, Options.list_if}
use Rattle.cecp_engine.specs.{EngineLines.LineKind, Items.Item}
use Rattle.chess_match.specs.{laws.Laws.line_kind, laws.Laws.lines_given, laws.Laws.match_after, shared.Parts.enter, shared.Parts.blocks_after, Events.Line, Rules.Rules, declared.reason.Reason.Reason, declared.reason.Reason.TheVariants.Claimed, declared.reason.Reason.TheVariants.Decided}
use Rattle.chess_match.specs.Acts.{Act, Block, IsMatch, IsMatchFrom, awaits_line, is_over, block_of, blocks_from}
use Rattle.chess_match.specs.Effects.{Match, Handshake, Setup, Opening, BeforeMove, AfterMove, Effect, beginning, begins_turn, effect, ends, handshake_lines, line_row, moved, answers_to}
use Rattle.chess_match.specs.Lines.{SentLine, Says, MoveSent, Time, Otim, setup_lines}
use Rattle.chess_match.proofs.shared.LineCases.{LineCases, line_cases, offering, said_by}
use Rattle.chess_match.proofs.shared.MatchCases.{both_not, on_when_read}
use Rattle.chess_match_laws.proofs.{Points.Kept, Points.by_points, Silences.by_silence}

-- ---- lines that only say something

-- whether none of these lines is a move, `time` or `otim`
abbrev pub all_say : List SentLine → Bool
all_say [] = true
all_say (Says text ∷ ls) = all_say ls
all_say (MoveSent prefixed text ∷ ls) = false
all_say (Time n ∷ ls) = false
all_say (Otim n ∷ ls) = false

-- the lines of a setup are none, nor are answers (`answers_say`) or an offer (`draw_says`)
setup_says : (r : Rules) (S : Colour) → all_say (setup_lines r S) ≡ true
unfolding setup_lines
setup_says r S = grind arith

answers_say : (items : List Item) → all_say (answers_to items) ≡ true
answers_say [] = refl
answers_say (i ∷ items) = answers_say items

if_says : (b : Bool) (ls : List SentLine) → all_say ls ≡ true → all_say (list_if b ls) ≡ true
if_says true ls h = h
if_says false ls h = refl

draw_says : (S O : Colour) (m : Match) → all_say ((offering S m).to O) ≡ true
draw_says S O m = grind arith

-- ---- what is due

-- all lines that are due to O
abbrev pub lines_due : Colour → List Block → List SentLine
lines_due O [] = []
lines_due O (b ∷ due) = list_if (same_colour b.to O) b.lines ++ lines_due O due

-- the lines for O of one block
due_one : (S O : Colour) (x : List SentLine) → lines_due O (block_of S x) ≡ list_if (same_colour S O) x
due_one S O [] = at (same_colour S O)
  where
    at : (b : Bool) → [] ≡ list_if b (let none : List SentLine = [] in none)
    at true = refl
    at false = refl
due_one S O (l ∷ x) = append-nil (list_if (same_colour S O) (l ∷ x))

due-append : (O : Colour) (due more : List Block) → lines_due O (due ++ more) ≡ lines_due O due ++ lines_due O more
due-append O [] more = refl
due-append O (b ∷ due) more = ap (λ (l : List SentLine). list_if (same_colour b.to O) b.lines ++ l)
    (due-append O due more)
    ∙ sym (append_assoc (list_if (same_colour b.to O) b.lines) (lines_due O due) (lines_due O more))

-- the blocks of an effect have for O just the lines that it sends O
pub both_due : (first O : Colour) (to : Colour → List SentLine) → lines_due O (blocks_from first to) ≡ to O
both_due first O to =
    due-append O (block_of first (to first)) (block_of (other first) (to (other first)))
    ∙ ap (λ (l : List SentLine). l ++ lines_due O (block_of (other first) (to (other first))))
    (due_one first O (to first))
    ∙ ap (λ (l : List SentLine). list_if (same_colour first O) (to first) ++ l)
    (due_one (other first) O (to (other first)))
    ∙ at first O
  where
    at : (first O : Colour) → list_if (same_colour first O) (to first)
        ++ list_if (same_colour (other first) O) (to (other first)) ≡ to O
    at White White = append-nil (to White)
    at White Black = refl
    at Black White = refl
    at Black Black = append-nil (to Black)

-- ---- what an event does

-- as `Goes`, where all that was to be sent so far is `old`
abbrev GoesFrom : {A : Type 0} → (Match → List A) → (Match → List A → Type 0) → List A → List A → List A → Match → Type 0
GoesFrom {A} all Rest old rest Z m' = (more : List A) × (rest' : List A) × (all m' ≡ old ++ more)
    × (rest ++ more ≡ Z ++ rest') × (length (rest ++ more) ≤ 1) × Rest m' rest'

-- what was not sent yet (`rest`) and what is new (`more`) are what is sent now (`Z`) and what is not sent then
-- (`rest'`)
abbrev pub Goes : {A : Type 0} → (Match → List A) → (Match → List A → Type 0) → Match → List A → List A → Match → Type 0
Goes {A} all Rest m rest Z m' = GoesFrom all Rest (all m) rest Z m'

-- for each kind of event: what it adds to `all` and what it sends of that to O, where `Rest m rest` says that in the
-- match `m` just `rest` is not sent yet, nor due. `said` is about the items of a line, `waits` about the time for a
-- reply
pub record Gives {A : Type 0} (f : SentLine → List A) (r : Rules) (O : Colour) (all : Match → List A)
    (Rest : Match → List A → Type 0) : Type 0 where
  pub stops : (m : Match) (reason : Reason) (rest : List A) → is_over m.phase ≡ false → length rest ≤ 1 → Rest m rest
      → Goes all Rest m rest (flat_map f ((ends r reason m).to O)) (ends r reason m).after
  pub said : (m : Match) (S : Colour) (kind : LineKind) (rest : List A) → m.phase ≡ Handshake S → Kept r m → Rest m rest
      → (all (said_by S kind m) ≡ all m) × Rest (said_by S kind m) rest
  pub counts : (m : Match) (k : ℕ) (rest : List A) → Rest m rest
      → (all (record m { count = k }) ≡ all m) × Rest (record m { count = k }) rest
  pub waits : (m : Match) (since : Option ℕ) (rest : List A) → Rest m rest
      → (all (record m { since = since }) ≡ all m) × Rest (record m { since = since }) rest
  pub enters : (m : Match) (S c : Colour) (rest : List A) → m.phase ≡ Handshake S → Rest m rest
      → (all (enter (Handshake c) m) ≡ all m) × Rest (enter (Handshake c) m) rest
      × (all (enter (Setup c) m) ≡ all m) × Rest (enter (Setup c) m) rest
  pub sets_up : (m : Match) (S c : Colour) (rest : List A) → m.phase ≡ Setup S → Rest m rest
      → (all (enter (Setup c) m) ≡ all m) × Rest (enter (Setup c) m) rest
  pub offers : (m : Match) (S : Colour) (rest : List A) → Rest m rest
      → (all (offering S m).after ≡ all m) × Rest (offering S m).after rest
  pub begins : (m : Match) (S : Colour) (rest : List A) → m.phase ≡ Setup S → length rest ≤ 1 → Kept r m → Rest m rest
      → Goes all Rest m rest (flat_map f ((begins_turn r r.start.side m).to O)) (begins_turn r r.start.side m).after
  pub passes : (m : Match) (S : Colour) (rest : List A) → m.phase ≡ AfterMove S → length rest ≤ 1 → Kept r m
      → Rest m rest
      → Goes all Rest m rest (flat_map f ((begins_turn r (other S) m).to O)) (begins_turn r (other S) m).after
  pub plays : (m : Match) (S : Colour) (move : Move) (opened used : ℕ) (rest : List A) → m.phase ≡ BeforeMove S opened
      → length rest ≤ 1 → Kept r m → Rest m rest → Goes all Rest m rest [] (moved S move used m)
  pub opened : (m : Match) (S : Colour) (k : ℕ) (rest : List A) → m.phase ≡ Opening S → Rest m rest
      → (all (record m { phase = BeforeMove S k }) ≡ all m) × Rest (record m { phase = BeforeMove S k }) rest

-- nothing is sent and nothing is new
pub keeps : {A : Type 0} (all : Match → List A) (Rest : Match → List A → Type 0) (m m' : Match) (rest : List A)
    → length rest ≤ 1 → (all m' ≡ all m) × Rest m' rest → Goes all Rest m rest [] m'
keeps all Rest m m' rest l (e, h) =
    ([], rest, e ∙ sym (append-nil (all m)), append-nil rest, subst (λ xs. length xs ≤ 1) (sym (append-nil rest)) l, h)

-- something is sent, and nothing is new
pub sends : {A : Type 0} (all : Match → List A) (Rest : Match → List A → Type 0) (m m' : Match) (rest Z rest' : List A)
    → length rest ≤ 1 → rest ≡ Z ++ rest' → all m' ≡ all m → Rest m' rest' → Goes all Rest m rest Z m'
sends all Rest m m' rest Z rest' l q e h = (
  [],
  rest',
  e ∙ sym (append-nil (all m)),
  append-nil rest ∙ q,
  subst (λ xs. length xs ≤ 1) (sym (append-nil rest)) l,
  h,
)

-- all was sent before, and something is new
pub grows : {A : Type 0} (all : Match → List A) (Rest : Match → List A → Type 0) (m m' : Match)
    (rest more Z rest' : List A) → rest ≡ [] → length more ≤ 1 → all m' ≡ all m ++ more → more ≡ Z ++ rest'
    → Rest m' rest' → Goes all Rest m rest Z m'
grows all Rest m m' rest more Z rest' n l e q h = rw n (more, rest', e, q, l, h)

module _ {A : Type 0} (f : SentLine → List A) (says : (text : List ℕ) → f (Says text) ≡ []) (r : Rules) (O : Colour)
    (all : Match → List A) (Rest : Match → List A → Type 0) (k : Gives f r O all Rest) where
  -- lines that are no move, `time` or `otim` send none of these
  quiet : (ls : List SentLine) → all_say ls ≡ true → flat_map f ls ≡ []
  quiet [] h = refl
  quiet (Says text ∷ ls) h = rw (says text) (quiet ls h)
  quiet (MoveSent prefixed text ∷ ls) h = cc
  quiet (Time n ∷ ls) h = cc
  quiet (Otim n ∷ ls) h = cc

  -- one step after another
  then_on : (m m' n : Match) (rest Z : List A) → Goes all Rest m rest [] m'
      → ((rest' : List A) → length rest' ≤ 1 → Rest m' rest' → Goes all Rest m' rest' Z n) → Goes all Rest m rest Z n
  then_on m m' n rest Z (more, rest', e, q, l, h) next =
      let (more', rest'', e', q', l', h') = next rest' (subst (λ xs. length xs ≤ 1) q l) h in
      let q'' : rest ++ (more ++ more') ≡ rest' ++ more' =
      sym (append_assoc rest more more') ∙ ap (λ (xs : List A). xs ++ more') q in (
        more ++ more',
        rest'',
        e' ∙ ap (λ (xs : List A). xs ++ more') e ∙ append_assoc (all m) more more',
        q'' ∙ q',
        subst (λ xs. length xs ≤ 1) (sym q'') l',
        h',
      )

  -- an event does the same if what is sent is written in another way
  instead : (m n : Match) (rest Z Z' : List A) → Z' ≡ Z → Goes all Rest m rest Z n → Goes all Rest m rest Z' n
  instead m n rest Z Z' e g = subst (λ (z : List A). Goes all Rest m rest z n) (sym e) g

  -- answers are none of these lines
  answered : (b : Bool) (items : List Item) (ls : List SentLine)
      → flat_map f (list_if b (answers_to items) ++ ls) ≡ flat_map f ls
  answered b items ls = flat_map-append f (list_if b (answers_to items)) ls
      ∙ ap (λ (l : List A). l ++ flat_map f ls) (quiet (list_if b (answers_to items)) (if_says b (answers_to items)
      (answers_say items)))

  -- after answers, lines that are none of these
  after_answers : (b : Bool) (items : List Item) (ls : List SentLine) → all_say ls ≡ true
      → flat_map f (list_if b (answers_to items) ++ ls) ≡ []
  after_answers b items ls h = answered b items ls ∙ quiet ls h

  -- what a line does, in each case
  cases : (S : Colour) (kind : LineKind) (moment : ℕ) (m : Match) (rest : List A) → awaits_line m.phase S ≡ true
      → Kept r m → length rest ≤ 1 → Rest m rest
      → LineCases r S kind moment m (λ e. Goes all Rest m rest (flat_map f (e.to O)) e.after)
  cases S kind moment m rest aw kept l h = record {
    handshake_stops = λ p reason c most w. instead m _ rest _ _ (answered (same_colour S O) _ _)
        (then_on m n _ rest _ (said p) (λ rest' l' h'. then_on n (record n { count = c }) _ rest' _
        (keeps all Rest n (record n { count = c }) rest' l' (k.counts n c rest' h'))
        (λ rest'' l'' h''. k.stops (record n { count = c }) reason rest'' (on_when_read m.phase S aw) l'' h'')));
    handshake_counts = λ p d few. instead m _ rest [] _ (after_answers (same_colour S O) _ [] refl)
        (then_on m n _ rest [] (said p) (λ rest' l' h'. keeps all Rest n (record n { count = m.count + 1 }) rest' l'
        (k.counts n (m.count + 1) rest' h')));
    handshake_next = λ p s d. instead m _ rest [] _
        (after_answers (same_colour S O) _ (list_if (same_colour Black O)
        handshake_lines) (if_says (same_colour Black O) handshake_lines refl))
        (then_on m n _ rest [] (said p) (λ rest' l' h'. keeps all Rest n (enter (Handshake Black) n) rest' l'
        (let e = k.enters n S Black rest' p h' in (e.0, e.1))));
    handshake_last = λ p s d. instead m _ rest [] _
        (after_answers (same_colour S O) _ (list_if (same_colour White O)
        (setup_lines r White)) (if_says (same_colour White O) (setup_lines r White) (setup_says r White)))
        (then_on m n _ rest [] (said p) (λ rest' l' h'. keeps all Rest n (enter (Setup White) n) rest' l'
        (let e = k.enters n S White rest' p h' in (e.2, e.3))));
    setup_counts = λ p pong few. counted;
    setup_next = λ p s pong. instead m _ rest [] _ (quiet (list_if (same_colour Black O) (setup_lines r Black))
        (if_says (same_colour Black O) (setup_lines r Black) (setup_says r Black)))
        (keeps all Rest m (enter (Setup Black) m) rest l (k.sets_up m S Black rest p h));
    setup_last = λ p s pong v d. k.begins m S rest p l kept h;
    setup_draws = λ p claim v d. k.stops m (Claimed claim) rest (on_when_read m.phase S aw) l h;
    setup_decides = λ p v e. k.stops m (Decided v) rest (on_when_read m.phase S aw) l h;
    stops = λ g reason w. k.stops m reason rest (on_when_read m.phase S aw) l h;
    counts = λ on none few. counted;
    offers = λ on none own. instead m _ rest [] _ (quiet ((offering S m).to O) (draw_says S O m))
        (keeps all Rest m (offering S m).after rest l (k.offers m S rest h));
    plays = λ text move opened is p read room timely verdict d. instead m _ rest [] _
        (quiet _ (if_says (same_colour S O) _ refl))
        (k.plays m S move opened (moment - opened) rest p l kept h);
    draws = λ text move opened claim is p read room timely verdict d. then_on m (moved S move (moment - opened) m) _
        rest _
        (k.plays m S move opened (moment - opened) rest p l kept h)
        (λ rest' l' h'. k.stops (moved S move (moment - opened) m) _ rest' refl l' h');
    decides = λ text move opened v is p read room timely verdict. then_on m (moved S move (moment - opened) m) _
        rest _
        (k.plays m S move opened (moment - opened) rest p l kept h)
        (λ rest' l' h'. k.stops (moved S move (moment - opened) m) _ rest' refl l' h');
    passes = λ p none. k.passes m S rest p l kept h;
  }
    where
      n : Match
      n = said_by S kind m

      said : m.phase ≡ Handshake S → Goes all Rest m rest [] n
      said p = keeps all Rest m n rest l (k.said m S kind rest p kept h)

      counted : Goes all Rest m rest [] (record m { count = m.count + 1 })
      counted = keeps all Rest m (record m { count = m.count + 1 }) rest l (k.counts m (m.count + 1) rest h)

  -- what any line does
  line : (S : Colour) (kind : LineKind) (moment : ℕ) (m : Match) (rest : List A) → awaits_line m.phase S ≡ true
      → Kept r m → length rest ≤ 1 → Rest m rest
      → Goes all Rest m rest (flat_map f ((line_row r m.phase kind moment m).to O))
      (line_row r m.phase kind moment m).after
  line S kind moment m rest aw kept l h =
      line_cases r S kind moment m (λ e. Goes all Rest m rest (flat_map f (e.to O)) e.after) aw (λ since.
      let n : Match = record m { since = since } in
      let (same, h') = k.waits m since rest h in
      subst (λ (old : List A). LineCases r S kind moment n
      (λ e. GoesFrom all Rest old rest (flat_map f (e.to O)) e.after)) same
      (cases S kind moment n rest aw kept l h'))

  -- ---- a failure drops none of these lines

  -- where a line of S gives S something to send, the other is sent none of these
  abbrev Apart : Colour → Effect → Type 0
  Apart S e = is_over e.after.phase ≡ false → 0 < length (e.to S) → flat_map f (e.to (other S)) ≡ []

  -- an empty list has no line
  not_some : {P : Type 0} (xs : List SentLine) → xs ≡ [] → 0 < length xs → P
  not_some [] e h = absurd (omega (arith, h))
  not_some (x ∷ xs) e h = absurd cc

  -- the opening of a turn is sent to one side only
  apart_turn : (S c : Colour) (m : Match) → Apart S (begins_turn r c m)
  apart_turn White White m on some = refl
  apart_turn Black Black m on some = refl
  apart_turn White Black m on some = not_some ((begins_turn r Black m).to White) refl some
  apart_turn Black White m on some = not_some ((begins_turn r White m).to Black) refl some

  apart_own : (S : Colour) (ls : List SentLine) → flat_map f (list_if (same_colour S (other S)) ls) ≡ []
  apart_own White ls = refl
  apart_own Black ls = refl

  -- any line of S
  apart : (S : Colour) (kind : LineKind) (moment : ℕ) (m : Match) → awaits_line m.phase S ≡ true
      → Apart S (line_row r m.phase kind moment m)
  apart S kind moment m aw = line_cases r S kind moment m (Apart S) aw (λ since. record {
    handshake_stops = λ p reason c most w on some. absurd cc;
    handshake_counts = λ p d few on some. after_answers (same_colour S (other S)) _ [] refl;
    handshake_next = λ p s d on some. after_answers (same_colour S (other S)) _ (list_if (same_colour Black (other S))
        handshake_lines) (if_says (same_colour Black (other S)) handshake_lines refl);
    handshake_last = λ p s d on some. after_answers (same_colour S (other S)) _ (list_if (same_colour White (other S))
        (setup_lines r White)) (if_says (same_colour White (other S)) (setup_lines r White) (setup_says r White));
    setup_counts = λ p pong few on some. refl;
    setup_next = λ p s pong on some. quiet (list_if (same_colour Black (other S)) (setup_lines r Black))
        (if_says (same_colour Black (other S)) (setup_lines r Black) (setup_says r Black));
    setup_last = λ p s pong v d. apart_turn S r.start.side m;
    setup_draws = λ p claim v d on some. absurd cc;
    setup_decides = λ p v e on some. absurd cc;
    stops = λ g reason w on some. absurd cc;
    counts = λ on none few on' some. refl;
    offers = λ on none own on' some. quiet ((offering S m).to (other S)) (draw_says S (other S) m);
    plays = λ text move opened is p read room timely verdict d on some. apart_own S _;
    draws = λ text move opened claim is p read room timely verdict d on some. absurd cc;
    decides = λ text move opened v is p read room timely verdict on some. absurd cc;
    passes = λ p none. apart_turn S (other S) m;
  })

  -- while a match is on, only the first of its due blocks has any of these lines
  abbrev First : List Block → Type 0
  First [] = Unit {0}
  First (b ∷ due) = flat_map f (lines_due O due) ≡ []

  none_more : (a b : List A) → a ++ b ≡ [] → b ≡ []
  none_more [] b h = h
  none_more (x ∷ a) b h = cc

  first_more : (due : List Block) → flat_map f (lines_due O due) ≡ [] → First due
  first_more [] h = tt
  first_more (b ∷ due) h = none_more (flat_map f (list_if (same_colour b.to O) b.lines)) (flat_map f (lines_due O due))
      (sym (flat_map-append f (list_if (same_colour b.to O) b.lines) (lines_due O due)) ∙ h)

  -- after a line of S only the first of the blocks due has any of these lines
  first_after : (S : Colour) (e : Effect) → is_over e.after.phase ≡ false → Apart S e → First (blocks_after S e)
  first_after S e on a = rw on (at (e.to S) (a on))
    where
      at : (x : List SentLine) → (0 < length x → flat_map f (e.to (other S)) ≡ [])
          → First (block_of S x ++ block_of (other S) (e.to (other S)))
      at [] h = one (e.to (other S))
        where
          one : (y : List SentLine) → First (block_of (other S) y)
          one [] = tt
          one (l ∷ y) = refl
      at (l ∷ x) h = ap (λ (ls : List SentLine). flat_map f ls) (due_one (other S) O (e.to (other S)))
          ∙ only (same_colour (other S) O) (h (omega arith))
        where
          only : (b : Bool) → flat_map f (e.to (other S)) ≡ [] → flat_map f (list_if b (e.to (other S))) ≡ []
          only true n = n
          only false n = refl

  -- ---- all that is sent

  -- what was sent (`X`), what is due (`Y`) and what else is not sent yet are all
  abbrev pub Sofar : List A → List A → Match → Type 0
  Sofar X Y m = (rest : List A) × (length (Y ++ rest) ≤ 1) × (X ++ (Y ++ rest) ≡ all m) × Rest m rest

  -- after a step
  stepped : (X Z : List A) (m m' : Match) → ((rest : List A) → length rest ≤ 1 → Rest m rest → Goes all Rest m rest Z
      m')
      → Sofar X [] m → Sofar X Z m'
  stepped X Z m m' step (rest, l, e, h) =
      let (more, rest', e', q, l', h') = step rest l h in (
        rest',
        subst (λ xs. length xs ≤ 1) q l',
        ap (λ (xs : List A). X ++ xs) (sym q) ∙ sym (append_assoc X rest more)
            ∙ ap (λ (xs : List A). xs ++ more) e ∙ sym e',
        h',
      )

  -- the second part of at most one is at most one
  fewer : (y z : List A) → length (y ++ z) ≤ 1 → length z ≤ 1
  fewer y z h = let e = length-append y z in omega (arith, h, e)

  -- a block was sent
  sent_one : (X y Y : List A) (m : Match) → Sofar X (y ++ Y) m → Sofar (X ++ y) Y m
  sent_one X y Y m (rest, l, e, h) = (
    rest,
    fewer y (Y ++ rest) (subst (λ xs. length xs ≤ 1) (append_assoc y Y rest) l),
    append_assoc X y (Y ++ rest) ∙ ap (λ (xs : List A). X ++ xs) (sym (append_assoc y Y rest)) ∙ e,
    h,
  )

  split_block : (b : Block) (due : List Block) → flat_map f (lines_due O (b ∷ due))
      ≡ flat_map f (list_if (same_colour b.to O) b.lines) ++ flat_map f (lines_due O due)
  split_block b due = flat_map-append f (list_if (same_colour b.to O) b.lines) (lines_due O due)

  given_more : (C : List A → Type 0) (X : List A) (ls given : List SentLine)
      → C ((X ++ flat_map f ls) ++ flat_map f given) → C (X ++ flat_map f (ls ++ given))
  given_more C X ls given c = subst C (append_assoc X (flat_map f ls) (flat_map f given)
      ∙ ap (λ (xs : List A). X ++ xs) (sym (flat_map-append f ls given))) c

  -- what follows (`C`) at a moment from what was sent and is due then, follows of all that was sent in the acts `H` up
  -- to then (`K` are the later ones)
  pub given_at : (C : Match → List A → Type 0) (H K : List Act) (final : Match)
      → ((m : Match) (due : List Block) → IsMatchFrom r m due K final → (X : List A)
      → Sofar X (flat_map f (lines_due O due)) m → C m X)
      → IsMatch r (H ++ K) final
      → Sofar [] (flat_map f (beginning.to O)) beginning.after
      → C (match_after r beginning.after H) (flat_map f (lines_given O H))
  given_at C H K final rest g start =
      by_points r (λ m due H n. (X : List A) → (is_over m.phase ≡ false → First due)
      → Sofar X (flat_map f (lines_due O due)) m → C n (X ++ flat_map f (lines_given O H))) (record {
        sends = λ m n b due H p X one s. given_more (C n) X (list_if (same_colour b.to O) b.lines) (lines_given O H)
            (p _ (λ on. first_more due (one on)) (sent m b due X s));
        fails = λ m n b due H on q only same p X one s.
            given_more (C n) X (list_if (same_colour b.to O) b.lines) (lines_given O H)
            (p _ (λ o. absurd cc) (over m _ White on _ (subst
            (λ xs. Sofar (X ++ flat_map f (list_if (same_colour b.to O) b.lines)) xs m) (one on) (sent m b due X s))));
        fails_late = λ m n b due H o only same p X one s.
            given_more (C n) X (list_if (same_colour b.to O) b.lines) (lines_given O H)
            (p _ (λ on. both_not (is_over m.phase) on o) (sent m b due X s));
        reads = λ m n S t x H aw q stays p X one s. p X
            (λ on. first_after S (effect r m (Line S t x)) on (apart S (line_kind t) x m aw))
            (dues (if is_over (effect r m (Line S t x)).after.phase then White else S) (effect r m (Line S t x)) X
            (stepped X _ m _ (λ rest l h. line S (line_kind t) x m rest aw q l h) s));
        opens = λ m n S x H o q p X one s. p X (λ on. tt)
            (stepped X [] m _ (λ rest l h. keeps all Rest m _ rest l (k.opened m S x rest o h)) s);
        silent = λ m n S x H aw limited q stays p X one s. by_silence r m n S x H
            (λ m due. (X : List A) → (is_over m.phase ≡ false → First due)
            → Sofar X (flat_map f (lines_due O due)) m → C n (X ++ flat_map f (lines_given O H)))
            (λ reason w only same p. p X (λ o. absurd cc)
            (over m reason White (on_when_read m.phase S aw) X s))
            (λ since p. p X (λ on. tt)
            (stepped X [] m _ (λ rest l h. keeps all Rest m _ rest l (k.waits m since rest h)) s)) stays p;
        output_ends = λ m n S H aw q only same p X one s. p X (λ o. absurd cc)
            (over m _ White (on_when_read m.phase S aw) X s);
        read_fails = λ m n S H aw q only same p X one s. p X (λ o. absurd cc)
            (over m _ White (on_when_read m.phase S aw) X s);
      }) H K final (λ m due q g X one s. subst (C m) (sym (append-nil X)) (rest m due g X s)) g []
      (λ on. first_begun O)
      (dues White beginning [] start)
    where
      sent : (m : Match) (b : Block) (due : List Block) (X : List A) → Sofar X (flat_map f (lines_due O (b ∷ due))) m
          → Sofar (X ++ flat_map f (list_if (same_colour b.to O) b.lines)) (flat_map f (lines_due O due)) m
      sent m b due X s = sent_one X _ _ m (subst (λ xs. Sofar X xs m) (split_block b due) s)

      dues : (first : Colour) (e : Effect) (X : List A) → Sofar X (flat_map f (e.to O)) e.after
          → Sofar X (flat_map f (lines_due O (blocks_from first e.to))) e.after
      dues first e X s = subst (λ (ls : List SentLine). Sofar X (flat_map f ls) e.after) (sym (both_due first O e.to)) s

      over : (m : Match) (reason : Reason) (first : Colour) → is_over m.phase ≡ false → (X : List A) → Sofar X [] m
          → Sofar X (flat_map f (lines_due O (blocks_from first (ends r reason m).to))) (ends r reason m).after
      over m reason first on X s = dues first (ends r reason m) X
          (stepped X _ m _ (λ rest l h. k.stops m reason rest on l h) s)

      first_begun : (O : Colour) → First (blocks_from White beginning.to)
      first_begun O = refl
