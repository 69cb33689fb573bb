-- Induction over the acts of a match up to a moment (by_points, from MatchCases.by_acts of chess_match). At each act it
-- may be used that the side to move and the number of used times agree with the moves played (`Kept`), and that a match
-- that is over stays as it is. A match ends in the state after all its acts (end_after_acts), so what holds at each
-- moment holds of a whole match (in_each).
use Rattle.std.proofs.Common.{◌≡◌, ℕ, ◌+◌, ◌-◌, ◌<◌, Bool, true, false, List, [], ◌∷◌, ◌++◌, length, length-append, refl, ap, sym, ◌∙◌, subst, append-nil, Option, arith, if◌then◌else◌}
use Rattle.chess_base.specs.{declared.man.Colour.Colour, declared.man.Colour.TheVariants.White, declared.man.Move.Move, Men.other, Men.same_colour}
use Rattle.cecp_engine.specs.EngineLines.{LineKind}
use Rattle.chess_match.specs.{laws.Laws.line_kind, laws.Laws.match_after, shared.Parts.blocks_after, Rules.Rules, declared.reason.MatchFault.TheVariants.Ended, declared.reason.MatchFault.TheVariants.Read, declared.reason.MatchFault.TheVariants.Write, declared.reason.Reason.TheVariants.Faulted}
use Rattle.chess_match.specs.Acts.{Act, Block, Sends, SendFails, Happens, IsMatch, IsMatchFrom, awaits_line, is_limited, is_over, blocks_from}
use Rattle.chess_match.specs.Effects.{Match, Phase, Handshake, Setup, Opening, BeforeMove, AfterMove, Over, beginning, effect, ends, line_row, moved}
use Rattle.chess_match.specs.Events.{Line, Opened, Silent, OutputEnds, FailsToRead}
use Rattle.chess_match_laws.specs.OfActs.{AtEachMoment, EndsAfterItsActs, InEachMatch, only_sends}
use Rattle.chess_match.proofs.shared.LineCases.{line_cases, offered_used, offering, said_by, said_used, silence_cases}
use Rattle.chess_match.proofs.shared.MatchCases.{both_not, by_acts, on_when_read}

-- ---- who moves

-- who is on move after these moves, which c begins
abbrev pub mover : Colour → List Move → Colour
mover c [] = c
mover c (m ∷ ms) = mover (other c) ms

pub mover-snoc : (c : Colour) (ms : List Move) (m : Move) → mover c (ms ++ m ∷ []) ≡ other (mover c ms)
mover-snoc c [] m = refl
mover-snoc c (x ∷ ms) m = mover-snoc (other c) ms m

-- how many of these moves, which c begins, are C's
abbrev pub turns_of : Colour → Colour → List Move → ℕ
turns_of C c [] = 0
turns_of C c (m ∷ ms) = (if same_colour c C then 1 else 0) + turns_of C (other c) ms

turns-snoc : (C c : Colour) (ms : List Move) (m : Move) → turns_of C c (ms ++ m ∷ [])
    ≡ turns_of C c ms + (if same_colour (mover c ms) C then 1 else 0)
turns-snoc C c [] m = omega arith
turns-snoc C c (x ∷ ms) m = let h = turns-snoc C (other c) ms m in omega (arith, h)

-- before the first turn no move is played; a turn is of the side that is on move after the moves played, of which the
-- side `first` makes the first
abbrev pub TurnIn : Colour → Phase → List Move → Type 0
TurnIn first (Handshake c) played = played ≡ []
TurnIn first (Setup c) played = played ≡ []
TurnIn first (Opening c) played = mover first played ≡ c
TurnIn first (BeforeMove c opened) played = mover first played ≡ c
TurnIn first (AfterMove c) played = (mover first played ≡ other c) × (0 < length played)
TurnIn first (Over reason) played = Unit {0}

-- this holds of the match, and each side has a used time for each of its moves
abbrev pub Kept : Rules → Match → Type 0
Kept r m = TurnIn r.start.side m.phase m.played
    × ((C : Colour) → length (m.seat C).used ≡ turns_of C r.start.side m.played)

-- what `Kept` says of the phase `p`, which is the match's
pub turn_in : (r : Rules) (m : Match) (p : Phase) → m.phase ≡ p → Kept r m → TurnIn r.start.side p m.played
turn_in r m p e k = subst (λ (q : Phase). TurnIn r.start.side q m.played) e k.0

pub offered_items : (S C : Colour) (m : Match) → ((offering S m).after.seat C).items ≡ (m.seat C).items
offered_items S C m = grind arith

pub moved_items : (S C : Colour) (move : Move) (used : ℕ) (m : Match)
    → ((moved S move used m).seat C).items ≡ (m.seat C).items
moved_items S C move used m = grind arith

pub moved_used : (S C : Colour) (move : Move) (used : ℕ) (m : Match) → ((moved S move used m).seat C).used
    ≡ (if same_colour S C then (m.seat C).used ++ used ∷ [] else (m.seat C).used)
moved_used S C move used m = grind arith

-- a move of S, whose turn it is, adds one used time and one move of S
moved_turns : (S C first : Colour) (move : Move) (used : ℕ) (m : Match) → mover first m.played ≡ S
    → length (m.seat C).used ≡ turns_of C first m.played
    → length ((moved S move used m).seat C).used ≡ turns_of C first (m.played ++ move ∷ [])
moved_turns S C first move used m e h =
    rw (moved_used S C move used m, turns-snoc C first m.played move, e) (at (same_colour S C))
  where
    at : (b : Bool) → length (if b then (m.seat C).used ++ used ∷ [] else (m.seat C).used)
        ≡ turns_of C first m.played + (if b then 1 else 0)
    at true = let l = length-append (m.seat C).used (used ∷ []) in omega (arith, l, h)
    at false = omega (arith, h)

some_move : (ms : List Move) (move : Move) → 0 < length (ms ++ move ∷ [])
some_move ms move = let l : length (ms ++ move ∷ []) ≡ length ms + 1 = length-append ms (move ∷ []) in omega (arith, l)

-- any line keeps `Kept`
kept_line : (r : Rules) (S : Colour) (kind : LineKind) (moment : ℕ) (m : Match) → awaits_line m.phase S ≡ true
    → Kept r m → Kept r (line_row r m.phase kind moment m).after
kept_line r S kind moment m aw k = line_cases r S kind moment m (λ e. Kept r e.after) aw (λ since. record {
  handshake_stops = λ p reason c most w. (tt, said);
  handshake_counts = λ p d few. (k.0, said);
  handshake_next = λ p s d. (turn_in r m (Handshake S) p k, said);
  handshake_last = λ p s d. (turn_in r m (Handshake S) p k, said);
  setup_counts = λ p pong few. k;
  setup_next = λ p s pong. (turn_in r m (Setup S) p k, k.1);
  setup_last = λ p s pong v d. (ap (λ (ms : List Move). mover r.start.side ms) (turn_in r m (Setup S) p k), k.1);
  setup_draws = λ p claim v d. (tt, k.1);
  setup_decides = λ p v e. (tt, k.1);
  stops = λ g reason w. (tt, k.1);
  counts = λ on none few. k;
  offers = λ on none own. (k.0, λ C. ap length (offered_used S C m) ∙ k.1 C);
  plays = λ text move opened is p read room timely verdict d. let e = turn_in r m (BeforeMove S opened) p k in (
    (mover-snoc r.start.side m.played move ∙ ap other e, some_move m.played move),
    λ C. moved_turns S C r.start.side move (moment - opened) m e (k.1 C),
  );
  draws = λ text move opened claim is p read room timely verdict d. (
    tt,
    λ C. moved_turns S C r.start.side move (moment - opened) m (turn_in r m (BeforeMove S opened) p k) (k.1 C),
  );
  decides = λ text move opened v is p read room timely verdict. (
    tt,
    λ C. moved_turns S C r.start.side move (moment - opened) m (turn_in r m (BeforeMove S opened) p k) (k.1 C),
  );
  passes = λ p none. ((turn_in r m (AfterMove S) p k).0, k.1);
})
  where
    said : (C : Colour) → length ((said_by S kind m).seat C).used ≡ turns_of C r.start.side m.played
    said C = ap length (said_used S C kind m) ∙ k.1 C

-- a silence keeps `Kept`
kept_silent : (r : Rules) (S : Colour) (moment : ℕ) (m : Match) → Kept r m → Kept r (effect r m (Silent S moment)).after
kept_silent r S moment m k = silence_cases r S moment m (λ e. Kept r e.after) (record {
  stops = λ reason w. (tt, k.1);
  goes_on = λ since. k;
})

-- ---- at each moment

-- in a match that is over only blocks are sent, and it stays as it is
abbrev pub Stays : Match → List Act → Match → Type 0
Stays m H n = is_over m.phase ≡ true → (n ≡ m) × (only_sends H ≡ true)

-- as `Acts` of MatchCases: `P m due H n` holds with an act in front, if it holds after the act. Besides, the match `m`
-- is `Kept`, and after an act that ends it only blocks are sent, and it stays as it is
pub record Points (r : Rules) (P : Match → List Block → List Act → Match → Type 0) : Type 0 where
  pub sends : (m n : Match) (b : Block) (due : List Block) (H : List Act) → P m due H n → P m (b ∷ due) (Sends b ∷ H) n
  -- a block fails, which ends the match
  pub fails : (m n : Match) (b : Block) (due : List Block) (H : List Act) → is_over m.phase ≡ false → Kept r m
      → only_sends H ≡ true → n ≡ (ends r (Faulted b.to Write) m).after
      → P (ends r (Faulted b.to Write) m).after (blocks_from White (ends r (Faulted b.to Write) m).to) H n
      → P m (b ∷ due) (SendFails b ∷ H) n
  -- a block fails after the end
  pub fails_late : (m n : Match) (b : Block) (due : List Block) (H : List Act) → is_over m.phase ≡ true
      → only_sends H ≡ true → n ≡ m → P m due H n → P m (b ∷ due) (SendFails b ∷ H) n
  -- a line of S is read
  pub reads : (m n : Match) (S : Colour) (t : Option (List ℕ)) (k : ℕ) (H : List Act) → awaits_line m.phase S ≡ true
      → Kept r m → Stays (effect r m (Line S t k)).after H n
      → P (effect r m (Line S t k)).after (blocks_after S (effect r m (Line S t k))) H n
      → P m [] (Happens (Line S t k) ∷ H) n
  pub opens : (m n : Match) (S : Colour) (k : ℕ) (H : List Act) → m.phase ≡ Opening S → Kept r m
      → P (effect r m (Opened S k)).after [] H n → P m [] (Happens (Opened S k) ∷ H) n
  -- a look for a line of S finds none yet
  pub silent : (m n : Match) (S : Colour) (k : ℕ) (H : List Act) → awaits_line m.phase S ≡ true
      → is_limited r.patience m.phase ≡ true → Kept r m → Stays (effect r m (Silent S k)).after H n
      → P (effect r m (Silent S k)).after (blocks_from White (effect r m (Silent S k)).to) H n
      → P m [] (Happens (Silent S k) ∷ H) n
  pub output_ends : (m n : Match) (S : Colour) (H : List Act) → awaits_line m.phase S ≡ true → Kept r m
      → only_sends H ≡ true → n ≡ (ends r (Faulted S Ended) m).after
      → P (ends r (Faulted S Ended) m).after (blocks_from White (ends r (Faulted S Ended) m).to) H n
      → P m [] (Happens (OutputEnds S) ∷ H) n
  pub read_fails : (m n : Match) (S : Colour) (H : List Act) → awaits_line m.phase S ≡ true → Kept r m
      → only_sends H ≡ true → n ≡ (ends r (Faulted S Read) m).after
      → P (ends r (Faulted S Read) m).after (blocks_from White (ends r (Faulted S Read) m).to) H n
      → P m [] (Happens (FailsToRead S) ∷ H) n

-- if `P` holds at the moment after the acts `H` (`K` are the later ones), and each act keeps it in front (`Points`),
-- then it holds of all of `H`, from the beginning of the match
pub by_points : (r : Rules) (P : Match → List Block → List Act → Match → Type 0) → Points r P → (H K : List Act)
    (final : Match) → ((m : Match) (due : List Block) → Kept r m → IsMatchFrom r m due K final → P m due [] m)
    → IsMatch r (H ++ K) final
    → P beginning.after (blocks_from White beginning.to) H (match_after r beginning.after H)
by_points r P k H K final rest g =
    (by_acts r (λ m due H n. Stays m H n × (Kept r m → P m due H n)) (record {
      sends = λ m n b due H p. (p.0, λ q. k.sends m n b due H (p.1 q));
      fails = λ m n b due H on p. (
        λ o. both_not (is_over m.phase) on o,
        λ q. k.fails m n b due H on q (p.0 refl).1 (p.0 refl).0 (p.1 (tt, q.1)),
      );
      fails_late = λ m n b due H o p. (p.0, λ q. k.fails_late m n b due H o (p.0 o).1 (p.0 o).0 (p.1 q));
      reads = λ m n S t x H aw p. (
        λ o. both_not (is_over m.phase) (on_when_read m.phase S aw) o,
        λ q. k.reads m n S t x H aw q p.0 (p.1 (kept_line r S (line_kind t) x m aw q)),
      );
      opens = λ m n S x H o p. (
        λ over. both_not (is_over m.phase) (ap is_over o) over,
        λ q. k.opens m n S x H o q (p.1 (turn_in r m (Opening S) o q, q.1)),
      );
      silent = λ m n S x H aw limited p. (
        λ o. both_not (is_over m.phase) (on_when_read m.phase S aw) o,
        λ q. k.silent m n S x H aw limited q p.0 (p.1 (kept_silent r S x m q)),
      );
      ends = λ m n S H aw p. (
        λ o. both_not (is_over m.phase) (on_when_read m.phase S aw) o,
        λ q. k.output_ends m n S H aw q (p.0 refl).1 (p.0 refl).0 (p.1 (tt, q.1)),
      );
      read_fails = λ m n S H aw p. (
        λ o. both_not (is_over m.phase) (on_when_read m.phase S aw) o,
        λ q. k.read_fails m n S H aw q (p.0 refl).1 (p.0 refl).0 (p.1 (tt, q.1)),
      );
    }) K final (λ m due g. ((λ o. (refl, refl)), λ q. rest m due q g)) beginning.after (blocks_from White beginning.to)
    H g).1 (refl, λ C. refl)

-- ---- a whole match

-- the match after all its acts is the match at its end
pub end_after_acts : InEachMatch EndsAfterItsActs
end_after_acts r H final g = by_acts r (λ m due K n. n ≡ final) (record {
  sends = λ m n b due K p. p;
  fails = λ m n b due K on p. p;
  fails_late = λ m n b due K o p. p;
  reads = λ m n S t k K aw p. p;
  opens = λ m n S k K o p. p;
  silent = λ m n S k K aw limited p. p;
  ends = λ m n S K aw p. p;
  read_fails = λ m n S K aw p. p;
}) [] final (λ m due g. at m due g) beginning.after (blocks_from White beginning.to) H
    (subst (λ (K : List Act). IsMatch r K final) (sym (append-nil H)) g)
  where
    at : (m : Match) (due : List Block) → IsMatchFrom r m due [] final → m ≡ final
    at m [] (o, e) = sym e
    at m (b ∷ due) g = absurd g

-- a whole match is one up to its end
pub whole : (r : Rules) (H : List Act) (final : Match) → IsMatch r H final
    → IsMatch r (H ++ []) final × (match_after r beginning.after H ≡ final)
whole r H final g = (subst (λ (K : List Act). IsMatch r K final) (sym (append-nil H)) g, end_after_acts r H final g)

-- what holds at each moment holds of the whole
pub in_each : (P : Rules → List Act → Match → Type 0) → AtEachMoment P → InEachMatch P
in_each P h r H final g = let (w, e) = whole r H final g in
    subst (λ (n : Match). P r H n) e (h r H [] final w)
