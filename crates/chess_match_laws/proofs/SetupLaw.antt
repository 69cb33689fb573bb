-- While the `pong 1` of a side is awaited, the lines that it was sent last are those of its setup: by the scheme of
-- Tellings, with an invariant (`Told`) that each event keeps (`tells`). For two examples the bytes of these lines are
-- computed: normal chess with `level 40 5 0`, and Chess960 with `level 0 2 12`.
use Rattle.std.proofs.Common.{◌≡◌, ◌∙◌, ℕ, eqb, arith, Bool, true, false, not, ◌&&◌, None, Some, List, [], ◌∷◌, ◌++◌, refl, sym, ap, subst, append-nil, append_assoc, Option, bytes_eq, flat_map, codes, if◌then◌else◌}
use Rattle.std.proofs.lemmas.Bool.Decides.{nat_tests}
use Rattle.std.specs.{Option.option_map_or, Fmt.digits}
use Rattle.chess_base.specs.{declared.man.Colour.Colour, declared.man.Colour.TheVariants.White, declared.man.Colour.TheVariants.Black, declared.man.Variant.TheVariants.Fischerandom, declared.man.Variant.TheVariants.Normal, declared.setup.Setup.Setup as Position, Initial.initial_setup, Initial.initial_setup_of, Men.same_colour, Options.list_if}
use Rattle.chess_base.proofs.shared.Men.{same_colour-self}
use Rattle.chess_fen.specs.Writing.{fen, is_initial}
use Rattle.chess_text.specs.San.{is_fischerandom}
use Rattle.cecp_engine.specs.EngineLines.{LineKind}
use Rattle.cecp_engine.specs.Levels.{LevelSeen, base_text, decimals_text, increment_text, level_text}
use Rattle.chess_match.specs.Acts.{Block, Happens, IsMatchFrom, awaits_line}
use Rattle.chess_match.specs.Effects.{Match, Phase, Handshake, Setup, Opening, BeforeMove, AfterMove, Over, beginning, line_row}
use Rattle.chess_match.specs.{Events.Line, Rules.Rules, Rules.start_fen, laws.Laws.lines_given}
use Rattle.chess_match.specs.Lines.{SentLine, Says, bytes_of, ping, setup_lines}
use Rattle.chess_match.proofs.{shared.LineCases.in_turn, shared.LineCases.line_cases, shared.Lines.bytes_of-append}
use Rattle.chess_match_laws.specs.OfActs.{AtEachLine}
use Rattle.chess_match_laws.specs.Rows.{IsSetUp, SetUpBy, chess960_setup, normal_setup}
use Rattle.chess_match_laws.proofs.{Givings.lines_due, Points.Kept, Tellings.Tells, Tellings.told_at}

-- ---- all lines

-- each line as a list of one
abbrev each : SentLine → List SentLine
each l = l ∷ []

each_is : (ls : List SentLine) → flat_map each ls ≡ ls
each_is [] = refl
each_is (l ∷ ls) = ap (λ xs. l ∷ xs) (each_is ls)

-- the lines of its setup were sent last
abbrev Last : Rules → Colour → List SentLine → Type 0
Last r S X = (front : List SentLine) × (X ≡ front ++ setup_lines r S)

-- in its setup, S was sent the lines of its setup last (`X` are all lines that it was sent or is due); in other phases
-- nothing is claimed
record ToldIn (r : Rules) (S : Colour) (p : Phase) (X : List SentLine) : Type 0 where
  last : (c : Colour) → p ≡ Setup c → same_colour c S ≡ true → Last r S X

-- `ToldIn` of a match
abbrev Told : Rules → Colour → Match → List SentLine → Type 0
Told r S m X = ToldIn r S m.phase X

abbrev is_setup : Phase → Bool
is_setup (Setup c) = true
is_setup _ = false

-- in a phase that is no setup nothing is to be shown
elsewhere : (r : Rules) (S : Colour) (p : Phase) (X : List SentLine) → is_setup p ≡ false → ToldIn r S p X
elsewhere r S p X off = record {
  last = λ c e own. absurd (let both : true ≡ false = sym (ap is_setup e) ∙ off in cc);
}

-- a turn is no setup
no_setup : (p : Phase) → in_turn p ≡ true → is_setup p ≡ false
no_setup (Handshake c) on = refl
no_setup (Setup c) on = absurd (cc)
no_setup (Opening c) on = refl
no_setup (BeforeMove c opened) on = refl
no_setup (AfterMove c) on = refl
no_setup (Over reason) on = refl

-- White's setup begins, after the handshake of C
set_up : (r : Rules) (S C : Colour) (X answers : List SentLine) → C ≡ Black
    → ToldIn r S (Setup White) (X ++ flat_map each (list_if (same_colour C S) answers ++ list_if (same_colour White S)
    (setup_lines r White)))
set_up r White Black X answers s = record { last = λ c e own. (X, ap (λ z. X ++ z) (each_is (setup_lines r White))) }
set_up r White White X answers s = absurd (cc)
set_up r Black C X answers s = record {
  last = λ c e own. absurd (not_his c e own);
}
  where
    not_his : (c : Colour) → Setup White ≡ Setup c → same_colour c Black ≡ true → ⊥
    not_his White e own = absurd (cc)
    not_his Black e own = absurd (cc)

-- Black's setup begins
set_up_next : (r : Rules) (S : Colour) (X : List SentLine)
    → ToldIn r S (Setup Black) (X ++ flat_map each (list_if (same_colour Black S) (setup_lines r Black)))
set_up_next r Black X = record { last = λ c e own. (X, ap (λ z. X ++ z) (each_is (setup_lines r Black))) }
set_up_next r White X = record { last = λ c e own. absurd (not_his c e own) }
  where
    not_his : (c : Colour) → Setup Black ≡ Setup c → same_colour c White ≡ true → ⊥
    not_his White e own = absurd (cc)
    not_his Black e own = absurd (cc)

module _ (r : Rules) (S : Colour) where
  -- any line keeps the invariant (`Told`)
  line : (C : Colour) (kind : LineKind) (moment : ℕ) (m : Match) (X : List SentLine) → awaits_line m.phase C ≡ true
      → Kept r m → Told r S m X
      → Told r S (line_row r m.phase kind moment m).after
      (X ++ flat_map each ((line_row r m.phase kind moment m).to S))
  line C kind moment m X aw kept told =
      line_cases r C kind moment m (λ e. Told r S e.after (X ++ flat_map each (e.to S))) aw (λ since. record {
        handshake_stops = λ p reason k most w. elsewhere r S _ _ refl;
        handshake_counts = λ p d few. elsewhere r S m.phase _ (ap is_setup p);
        handshake_next = λ p s d. elsewhere r S _ _ refl;
        handshake_last = λ p s d. set_up r S C X _ s;
        setup_counts = λ p pong few. subst (ToldIn r S m.phase) (sym (append-nil X)) told;
        setup_next = λ p s pong. set_up_next r S X;
        setup_last = λ p s pong v d. elsewhere r S _ _ refl;
        setup_draws = λ p claim v d. elsewhere r S _ _ refl;
        setup_decides = λ p v e. elsewhere r S _ _ refl;
        stops = λ done reason w. elsewhere r S _ _ refl;
        counts = λ on none few. subst (ToldIn r S m.phase) (sym (append-nil X)) told;
        offers = λ on none own. elsewhere r S m.phase _ (no_setup m.phase on);
        plays = λ text move opened is p read room timely v d. elsewhere r S _ _ refl;
        draws = λ text move opened claim is p read room timely v d. elsewhere r S _ _ refl;
        decides = λ text move opened v is p read room timely e. elsewhere r S _ _ refl;
        passes = λ p none. elsewhere r S _ _ refl;
      })

  tells : Tells each r S (Told r S)
  tells = record {
    line = line;
    stops = λ m reason X Y on told. elsewhere r S _ _ refl;
    waits = λ m since X told. told;
    opened = λ m C k X e told. elsewhere r S _ _ refl;
  }

-- ---- the two examples

bytes_same : (text : List ℕ) → bytes_eq text text ≡ true
bytes_same [] = refl
bytes_same (c ∷ cs) = let here : eqb c c ≡ true = grind (arith, nat_tests) in rw here (bytes_same cs)

abbrev forty_in_five : LevelSeen
forty_in_five = record { moves = 40; base = 300000; increment = 0 }

abbrev two_and_twelve : LevelSeen
two_and_twelve = record { moves = 0; base = 120000; increment = 12000 }

own_fen : initial_setup.variant ≡ Normal
unfolding initial_setup initial_setup_of
own_fen = refl

no_fen : start_fen initial_setup ≡ None
unfolding start_fen
no_fen =
    ap (λ (b : Bool). if b && not (is_fischerandom initial_setup.variant) then None else Some (fen initial_setup))
    (bytes_same (fen initial_setup))
    ∙ ap (λ v. if not (is_fischerandom v) then None else Some (fen initial_setup)) own_fen

own_level : level_text forty_in_five ≡ codes "40 5 0"
unfolding level_text base_text increment_text decimals_text digits
own_level = refl

-- the lines of a setup, by whether it is for Chess960, the level and the FEN
abbrev lines_by : Bool → LevelSeen → Option (List ℕ) → List SentLine
lines_by is_960 level start =
    Says (codes "new") ∷ (list_if is_960 (Says (codes "variant fischerandom") ∷ [])
    ++ (Says (codes "level " ++ level_text level) ∷ Says (codes "nopost") ∷ Says (codes "easy") ∷ Says (codes "force")
    ∷ (option_map_or (λ fen. Says (codes "setboard " ++ fen) ∷ []) start [] ++ ping 1 ∷ [])))

-- those of a setup from this start with this level
abbrev lines_for : Position → LevelSeen → List SentLine
lines_for start level = lines_by (is_fischerandom start.variant) level (start_fen start)

-- the bytes of the first example
normal_is : bytes_of (lines_for initial_setup forty_in_five) ≡ normal_setup
unfolding bytes_of digits
normal_is =
    ap (λ (b : Bool). bytes_of (lines_by b forty_in_five (start_fen initial_setup))) (ap is_fischerandom own_fen)
    ∙ ap (λ (o : Option (List ℕ)). bytes_of (lines_by false forty_in_five o)) no_fen
    ∙ rw own_level refl

-- for Chess960 a FEN is sent
some_fen : (start : Position) → start.variant ≡ Fischerandom → start_fen start ≡ Some (fen start)
unfolding start_fen
some_fen start is = at (is_initial start) (is_fischerandom start.variant) (ap is_fischerandom is)
  where
    at : (b f : Bool) → f ≡ true → (if b && not f then None else Some (fen start)) ≡ Some (fen start)
    at true true e = refl
    at false true e = refl
    at b false e = absurd (cc)

other_level : level_text two_and_twelve ≡ codes "0 2 12"
unfolding level_text base_text increment_text decimals_text digits
other_level = refl

-- the bytes of the second example
chess960_is : (start : Position) → start.variant ≡ Fischerandom
    → bytes_of (lines_for start two_and_twelve) ≡ chess960_setup start
unfolding bytes_of digits
chess960_is start is =
    ap (λ (b : Bool). bytes_of (lines_by b two_and_twelve (start_fen start))) (ap is_fischerandom is)
    ∙ ap (λ (o : Option (List ℕ)). bytes_of (lines_by true two_and_twelve o)) (some_fen start is)
    ∙ rw other_level (simp append_assoc)

-- the lines of a setup, by start and level
by_rules : (r : Rules) (S : Colour) → setup_lines r S ≡ lines_for r.start (r.level S)
unfolding setup_lines
by_rules r S = refl

by_both : (r : Rules) (S : Colour) (start : Position) (level : LevelSeen) → r.start ≡ start → r.level S ≡ level
    → bytes_of (setup_lines r S) ≡ bytes_of (lines_for start level)
by_both r S start level e k =
    ap bytes_of (by_rules r S) ∙ ap (λ s. bytes_of (lines_for s (r.level S))) e
    ∙ ap (λ l. bytes_of (lines_for start l)) k

-- what was sent last, as bytes
last_bytes : (r : Rules) (S : Colour) (X : List SentLine) → Last r S X → SetUpBy r S (bytes_of X)
last_bytes r S X (front, is) =
    let all : bytes_of X ≡ bytes_of front ++ bytes_of (setup_lines r S) =
    ap bytes_of is ∙ bytes_of-append front (setup_lines r S) in record {
      normal = λ e k. (
        bytes_of front,
        all ∙ ap (λ z. bytes_of front ++ z) (by_both r S initial_setup forty_in_five e k ∙ normal_is),
      );
      chess960 = λ e k. (
        bytes_of front,
        all ∙ ap (λ z. bytes_of front ++ z)
            (by_both r S r.start two_and_twelve refl k ∙ chess960_is r.start e),
      );
    }

pub is_set_up : AtEachLine IsSetUp
is_set_up r before after S text moment final g phase =
    subst (λ ls. SetUpBy r S (bytes_of ls)) (each_is (lines_given S before))
    (told_at each r S (Told r S) (tells r S) (λ m X. m.phase ≡ Setup S → SetUpBy r S (bytes_of X)) before
    (Happens (Line S text moment) ∷ after) final at g (begun S) phase)
  where
    begun : (S : Colour) → Told r S beginning.after (flat_map each (beginning.to S))
    begun S = elsewhere r S _ _ refl

    at : (m : Match) (due : List Block) → IsMatchFrom r m due (Happens (Line S text moment) ∷ after) final
        → (X : List SentLine) → Told r S m (X ++ flat_map each (lines_due S due)) → m.phase ≡ Setup S
        → SetUpBy r S (bytes_of X)
    at m (b ∷ due) q X told p = absurd q
    at m [] q X told p =
        subst (λ ls. SetUpBy r S (bytes_of ls)) (append-nil X)
        (last_bytes r S (X ++ []) (told.last S p (same_colour-self S)))
