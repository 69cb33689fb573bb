-- Each used time is the moment of its move's line less the moment of its turn's opening (0 if that is negative); at
-- most one such difference is not used, if its line ended the match. By induction over the acts (`Ends`): a line that
-- is an awaited move adds its time since the opening to the times used, any other line adds none (`Grows`).
use Rattle.std.proofs.Common.{◌≡◌, ℕ, ◌+◌, ◌-◌, ◌≤◌, Bool, true, false, List, [], ◌∷◌, ◌++◌, length, refl, ap, sym, subst, ◌∙◌, append-nil, append_assoc, Option, None, Some, arith, if◌then◌else◌}
use Rattle.chess_base.specs.{declared.man.Colour.Colour, declared.man.Colour.TheVariants.White, declared.man.Colour.TheVariants.Black, Men.other, Men.same_colour}
use Rattle.cecp_engine.specs.EngineLines.{LineKind}
use Rattle.chess_match.specs.Acts.{Act, Sends, SendFails, Happens, awaits_line, is_over}
use Rattle.chess_match.specs.Effects.{Match, Phase, Handshake, Setup, Opening, BeforeMove, Over, effect, line_row, moved}
use Rattle.chess_match.specs.{shared.Parts.enter, Events.Line, Events.Opened, Rules.Rules, declared.reason.Reason.TheVariants.Claimed, declared.reason.Reason.TheVariants.Decided, laws.Laws.move_said, laws.Laws.line_kind}
use Rattle.chess_match_laws.specs.Streams.{is_move}
use Rattle.chess_match_laws.specs.OfActs.{AtEachMoment, UsedTimesAreDifferences, move_times, only_sends}
use Rattle.chess_match.proofs.shared.LineCases.{line_cases, offering, said_by, offered_used, said_used}
use Rattle.chess_match.proofs.shared.MatchCases.{both_not}
use Rattle.chess_match_laws.proofs.{Points.Stays, Points.by_points, Points.moved_used, Silences.by_silence}

-- the moment of the opening, where a move of S is awaited
abbrev awaited : Colour → Phase → Option ℕ
awaited S (BeforeMove c opened) = if same_colour c S then Some opened else None
awaited S _ = None

-- the time that a line takes, where it is a move that is awaited
abbrev taken : Option ℕ → LineKind → ℕ → List ℕ
taken None kind n = []
taken (Some k) kind n = if is_move kind then (n - k) ∷ [] else []

-- the moment of the opening after the line: none, if the line was the move
abbrev awaited_then : Option ℕ → LineKind → Option ℕ
awaited_then None kind = None
awaited_then (Some k) kind = if is_move kind then None else Some k

-- a line takes the match from m to m': the times used by S grow by what the line takes, but for `rest`, which is
-- nothing if the match goes on
abbrev Grows : Colour → LineKind → ℕ → Match → Match → Type 0
Grows S kind n m m' =
    (rest : List ℕ) × (length rest ≤ 1) × ((m.seat S).used ++ taken (awaited S m.phase) kind n ≡ (m'.seat S).used
    ++ rest)
    × (is_over m'.phase ≡ false
    → (rest ≡ []) × (awaited S m'.phase ≡ awaited_then (awaited S m.phase) kind))

-- a line takes at most one time
taken_short : (o : Option ℕ) (kind : LineKind) (n : ℕ) → length (taken o kind n) ≤ 1
taken_short o kind n = grind arith

-- a line that says no move is no `move` line
not_move : (kind : LineKind) → move_said kind ≡ [] → is_move kind ≡ false
not_move kind h1 = grind arith

-- the match is over, with the same times
ends_grow : (S : Colour) (kind : LineKind) (n : ℕ) (m m' : Match) → (m'.seat S).used ≡ (m.seat S).used
    → is_over m'.phase ≡ true → Grows S kind n m m'
ends_grow S kind n m m' u over = (
  taken (awaited S m.phase) kind n,
  taken_short (awaited S m.phase) kind n,
  ap (λ (l : List ℕ). l ++ taken (awaited S m.phase) kind n) (sym u),
  λ on. both_not (is_over m'.phase) on over,
)

-- a line that is no move leaves all as it was
stays_grow : (S : Colour) (kind : LineKind) (n : ℕ) (m m' : Match) → (m'.seat S).used ≡ (m.seat S).used
    → m'.phase ≡ m.phase → is_move kind ≡ false → Grows S kind n m m'
stays_grow S kind n m m' u p none = (
  [],
  omega arith,
  at (awaited S m.phase) ∙ ap (λ (l : List ℕ). l ++ []) (sym u),
  λ on. (refl, ap (awaited S) p ∙ next (awaited S m.phase)),
)
  where
    at : (o : Option ℕ) → (m.seat S).used ++ taken o kind n ≡ (m.seat S).used ++ []
    at None = refl
    at (Some k) = rw none refl

    next : (o : Option ℕ) → o ≡ awaited_then o kind
    next None = refl
    next (Some k) = rw none refl

-- no move is awaited before the line or after it
apart_grow : (S : Colour) (kind : LineKind) (n : ℕ) (m m' : Match) → awaited S m.phase ≡ None
    → awaited S m'.phase ≡ None → (m'.seat S).used ≡ (m.seat S).used → Grows S kind n m m'
apart_grow S kind n m m' a b u = rw a ([], omega arith, ap (λ (l : List ℕ). l ++ []) (sym u), λ on. (refl, b))

-- a move is played
moved_grow : (S c : Colour) (kind : LineKind) (n opened : ℕ) (m m' : Match) → m.phase ≡ BeforeMove c opened
    → is_move kind ≡ true
    → (m'.seat S).used ≡ (if same_colour c S then (m.seat S).used ++ (n - opened) ∷ [] else (m.seat S).used)
    → awaited S m'.phase ≡ None → Grows S kind n m m'
moved_grow S c kind n opened m m' p is u b = (
  [],
  omega arith,
  ap (λ (q : Phase). (m.seat S).used ++ taken (awaited S q) kind n) p ∙ at (same_colour c S)
      ∙ ap (λ (l : List ℕ). l ++ []) (sym u),
  λ on. (refl, b ∙ sym (ap (λ (q : Phase). awaited_then (awaited S q) kind) p ∙ next (same_colour c S))),
)
  where
    at : (b : Bool) → (m.seat S).used ++ taken (if b then Some opened else None) kind n
        ≡ (if b then (m.seat S).used ++ (n - opened) ∷ [] else (m.seat S).used) ++ []
    at true = rw is (sym (append-nil ((m.seat S).used ++ (n - opened) ∷ [])))
    at false = refl

    next : (b : Bool) → awaited_then (if b then Some opened else None) kind ≡ None
    next true = rw is refl
    next false = refl

-- any line of c
lines_grow : (r : Rules) (S c : Colour) (kind : LineKind) (n : ℕ) (m : Match) → awaits_line m.phase c ≡ true
    → Grows S kind n m (line_row r m.phase kind n m).after
lines_grow r S c kind n m aw = line_cases r c kind n m (λ e. Grows S kind n m e.after) aw (λ since. record {
  handshake_stops = λ p reason k most w. ends_grow S kind n m (record (said_by c kind m) { phase = Over reason; count = k })
      (said_used c S kind m) refl;
  handshake_counts = λ p d few. apart_grow S kind n m (record (said_by c kind m) { count = m.count + 1 })
      (ap (awaited S) p) (ap (awaited S) p) (said_used c S kind m);
  handshake_next = λ p s d. apart_grow S kind n m (enter (Handshake Black) (said_by c kind m)) (ap (awaited S) p) refl
      (said_used c S kind m);
  handshake_last = λ p s d. apart_grow S kind n m (enter (Setup White) (said_by c kind m)) (ap (awaited S) p) refl
      (said_used c S kind m);
  setup_counts = λ p pong few. apart_grow S kind n m (record m { count = m.count + 1 }) (ap (awaited S) p)
      (ap (awaited S) p) refl;
  setup_next = λ p s pong. apart_grow S kind n m (enter (Setup Black) m) (ap (awaited S) p) refl refl;
  setup_last = λ p s pong v d. apart_grow S kind n m (enter (Opening r.start.side) m) (ap (awaited S) p) refl refl;
  setup_draws = λ p claim v d. ends_grow S kind n m (record m { phase = Over (Claimed claim) }) refl refl;
  setup_decides = λ p v e. ends_grow S kind n m (record m { phase = Over (Decided v) }) refl refl;
  stops = λ g reason w. ends_grow S kind n m (record m { phase = Over reason }) refl refl;
  counts = λ on none few. stays_grow S kind n m (record m { count = m.count + 1 }) refl refl (not_move kind none);
  offers = λ on none own. stays_grow S kind n m (offering c m).after (offered_used c S m) refl (not_move kind none);
  plays = λ text move opened is p read room timely verdict d. moved_grow S c kind n opened m
      (moved c move (n - opened) m) p (ap is_move is)
      (moved_used c S move (n - opened) m) refl;
  draws = λ text move opened claim is p read room timely verdict d. moved_grow S c kind n opened m
      (record (moved c move (n - opened) m) { phase = Over (Claimed claim) }) p (ap is_move is)
      (moved_used c S move (n - opened) m) refl;
  decides = λ text move opened v is p read room timely verdict. moved_grow S c kind n opened m
      (record (moved c move (n - opened) m) { phase = Over (Decided v) }) p (ap is_move is)
      (moved_used c S move (n - opened) m) refl;
  passes = λ p none. apart_grow S kind n m (enter (Opening (other c)) m) (ap (awaited S) p) refl refl;
})

-- a line that a turn reads is S's, if S's move is awaited
line_times : (S c : Colour) (p : Phase) (text : Option (List ℕ)) (n : ℕ) (H : List Act) → awaits_line p c ≡ true
    → move_times S (awaited S p) (Happens (Line c text n) ∷ H) ≡ taken (awaited S p) (line_kind text) n
    ++ move_times S (awaited_then (awaited S p) (line_kind text)) H
line_times S c p text n H h1 = grind arith

-- acts that are only blocks take no time
no_times : (S : Colour) (o : Option ℕ) (H : List Act) → only_sends H ≡ true → move_times S o H ≡ []
no_times S o [] h = refl
no_times S o (Sends b ∷ H) h = no_times S o H h
no_times S o (SendFails b ∷ H) h = no_times S o H h
no_times S o (Happens e ∷ H) h = absurd cc

-- the times used by S at the end (`n`) are those at `m` and those of the acts `H`, but for `rest`; a move of S is
-- awaited since `o`
abbrev Ends : Colour → Match → Option ℕ → List Act → Match → Type 0
Ends S m o H n = (rest : List ℕ) × (length rest ≤ 1) × ((m.seat S).used ++ move_times S o H ≡ (n.seat S).used ++ rest)
    × (is_over n.phase ≡ false → rest ≡ [])

-- a line in front
goes_on : (S c : Colour) (text : Option (List ℕ)) (k : ℕ) (H : List Act) (m m' n : Match) → awaits_line m.phase c ≡ true
    → Stays m' H n → Grows S (line_kind text) k m m' → Ends S m' (awaited S m'.phase) H n
    → Ends S m (awaited S m.phase) (Happens (Line c text k) ∷ H) n
goes_on S c text k H m m' n aw stays g e = at (is_over m'.phase) refl
  where
    kind : LineKind
    kind = line_kind text

    now : List ℕ
    now = taken (awaited S m.phase) kind k

    all : (X : List ℕ) → move_times S (awaited_then (awaited S m.phase) kind) H ≡ X
        → (m.seat S).used ++ move_times S (awaited S m.phase) (Happens (Line c text k) ∷ H)
        ≡ ((m'.seat S).used ++ g.0) ++ X
    all X x = ap (λ (l : List ℕ). (m.seat S).used ++ l)
        (line_times S c m.phase text k H aw ∙ ap (λ (l : List ℕ). now ++ l) x)
        ∙ sym (append_assoc (m.seat S).used now X) ∙ ap (λ (l : List ℕ). l ++ X) g.2

    at : (b : Bool) → is_over m'.phase ≡ b → Ends S m (awaited S m.phase) (Happens (Line c text k) ∷ H) n
    at false on = (
      e.0,
      e.1,
      all _ (ap (λ (o : Option ℕ). move_times S o H) (sym (g.3 on).1))
          ∙ ap (λ (l : List ℕ). l ++ move_times S (awaited S m'.phase) H)
          (ap (λ (l : List ℕ). (m'.seat S).used ++ l) (g.3 on).0 ∙ append-nil (m'.seat S).used)
          ∙ e.2,
      e.3,
    )
    at true over = let (same, only) = stays over in (
      g.0,
      g.1,
      all [] (no_times S (awaited_then (awaited S m.phase) kind) H only) ∙ append-nil ((m'.seat S).used ++ g.0)
          ∙ ap (λ (x : Match). (x.seat S).used ++ g.0) (sym same),
      λ on. both_not (is_over n.phase) on (ap (λ (x : Match). is_over x.phase) same ∙ over),
    )

-- an act that ends the match, and uses no time
stopped : (S : Colour) (o : Option ℕ) (H : List Act) (m n : Match) → (n.seat S).used ≡ (m.seat S).used
    → only_sends H ≡ true → Ends S m o H n
stopped S o H m n u only = (
  [],
  omega arith,
  ap (λ (l : List ℕ). (m.seat S).used ++ l) (no_times S o H only) ∙ ap (λ (l : List ℕ). l ++ []) (sym u),
  λ on. refl,
)

pub used_times_are_differences : AtEachMoment UsedTimesAreDifferences
used_times_are_differences r H K final g S = by_points r (λ m due H n. Ends S m (awaited S m.phase) H n) (record {
  sends = λ m n b due H p. p;
  fails = λ m n b due H on q only same p. stopped S (awaited S m.phase) H m n
      (ap (λ (x : Match). (x.seat S).used) same) only;
  fails_late = λ m n b due H o only same p. p;
  reads = λ m n c t k H aw q stays p. goes_on S c t k H m (effect r m (Line c t k)).after n aw stays
      (lines_grow r S c (line_kind t) k m aw) p;
  opens = λ m n c k H o q p. subst (λ (x : Phase). Ends S m (awaited S x) (Happens (Opened c k) ∷ H) n) (sym o) p;
  silent = λ m n c k H aw limited q stays p. by_silence r m n c k H (λ m' due. Ends S m' (awaited S m'.phase) H n)
      (λ reason w only same p. stopped S (awaited S m.phase) H m n (ap (λ (x : Match). (x.seat S).used) same) only)
      (λ since p. p) stays p;
  output_ends = λ m n c H aw q only same p. stopped S (awaited S m.phase) H m n
      (ap (λ (x : Match). (x.seat S).used) same)
      only;
  read_fails = λ m n c H aw q only same p. stopped S (awaited S m.phase) H m n
      (ap (λ (x : Match). (x.seat S).used) same)
      only;
}) H K final (λ m due q g. ([], omega arith, refl, λ on. refl)) g
