-- A match whose last position has a verdict ended for this verdict, or before the first move by a fault
-- (`verdicts_end_matches`). The invariant is `Judged`, which each line and silence keeps (by LineCases): while the
-- match is on there is no move yet or no verdict, and once it ended for a verdict, the board has it.
use Rattle.std.proofs.Common.{◌≡◌, ◌⊎◌, ℕ, Bool, true, false, List, [], refl, sym, ◌∙◌, subst, inl, inr, None, Some, arith}
use Rattle.chess_base.specs.{declared.man.Colour.Colour, declared.man.Colour.TheVariants.White, declared.man.Move.Move}
use Rattle.chess_game.specs.{declared.verdicts.Verdict.Verdict, Ends.verdict}
use Rattle.cecp_engine.specs.EngineLines.{LineKind}
use Rattle.chess_match.specs.{laws.Laws.line_kind, laws.Laws.VerdictsEndMatches, Events.Silent, Rules.Rules, declared.reason.Reason.Reason, declared.reason.Reason.TheVariants.Decided, declared.reason.Reason.TheVariants.Faulted, declared.reason.MatchFault.MatchFault}
use Rattle.chess_match.specs.Acts.{Act, IsMatch, awaits_line, blocks_from, is_over}
use Rattle.chess_match.specs.Effects.{Match, Phase, Handshake, Setup, Opening, Over, beginning, effect, line_row}
use Rattle.chess_match.proofs.shared.LineCases.{in_turn, is_decided, is_fault, line_cases, silence_cases}
use Rattle.chess_match.proofs.shared.MatchCases.{by_cases, on_when_read}

-- no move was played, or the board has no verdict
abbrev Undecided : Rules → List Move → Type 0
Undecided r played = (played ≡ []) ⊎ (verdict r.start played ≡ None)

-- a match in this phase that ended for a verdict has it; one that ended by a fault had no move or has no verdict;
-- before the first turn there is no move, and in any other phase no verdict
abbrev pub ByBoard : Rules → List Move → Phase → Type 0
ByBoard r played (Over (Decided v)) = verdict r.start played ≡ Some v
ByBoard r played (Over (Faulted c fault)) = Undecided r played
ByBoard r played (Handshake c) = played ≡ []
ByBoard r played (Setup c) = played ≡ []
ByBoard r played _ = verdict r.start played ≡ None

-- `ByBoard` of a match's moves and phase
abbrev pub Judged : Rules → Match → Type 0
Judged r m = ByBoard r m.played m.phase

-- a match that is on has no verdict, or no move
on_undecided : (r : Rules) (played : List Move) (p : Phase) → is_over p ≡ false → ByBoard r played p
    → Undecided r played
on_undecided r played (Handshake c) on j = inl j
on_undecided r played (Setup c) on j = inl j
on_undecided r played (Opening c) on j = inr j
on_undecided r played (Over reason) on j = absurd cc
on_undecided r played _ on j = inr j

-- in a turn the board has no verdict
in_turn_undecided : (r : Rules) (played : List Move) (p : Phase) → in_turn p ≡ true → ByBoard r played p
    → verdict r.start played ≡ None
in_turn_undecided r played p h1 h2 = grind arith

-- a match that ends by a fault, without a move or without a verdict, meets `ByBoard`
faulted : (r : Rules) (played : List Move) (reason : Reason) → is_fault reason ≡ true → Undecided r played
    → ByBoard r played (Over reason)
faulted r played (Faulted c fault) is h = h
faulted r played reason is h = absurd cc

-- so does one that ends for a reason that is no verdict, if the board has none
stopped : (r : Rules) (played : List Move) (reason : Reason) → is_decided reason ≡ false
    → verdict r.start played ≡ None → ByBoard r played (Over reason)
stopped r played (Decided v) is h = absurd cc
stopped r played (Faulted c fault) is h = inr h
stopped r played reason is h = h

-- a match that is on ends for no verdict, in a turn or by a fault
ended_judged : (r : Rules) (m : Match) (reason : Reason) → is_over m.phase ≡ false → Judged r m
    → is_decided reason ≡ false → (in_turn m.phase ≡ false → is_fault reason ≡ true) → ByBoard r m.played (Over reason)
ended_judged r m reason goes j is fault = at (in_turn m.phase) refl
  where
    at : (on : Bool) → in_turn m.phase ≡ on → ByBoard r m.played (Over reason)
    at true on = stopped r m.played reason is (in_turn_undecided r m.played m.phase on j)
    at false off = faulted r m.played reason (fault off) (on_undecided r m.played m.phase goes j)

-- an engine's line keeps `Judged`
line_judged : (r : Rules) (S : Colour) (kind : LineKind) (moment : ℕ) (m : Match) → awaits_line m.phase S ≡ true
    → Judged r m → Judged r (line_row r m.phase kind moment m).after
line_judged r S kind moment m aw j = line_cases r S kind moment m (λ e. Judged r e.after) aw (λ since. record {
  handshake_stops = λ p reason k most w. ended_judged r m reason (on_when_read m.phase S aw) j w.2 w.3;
  handshake_counts = λ p d few. j;
  handshake_next = λ p s d. by p;
  handshake_last = λ p s d. by p;
  setup_counts = λ p pong few. j;
  setup_next = λ p s pong. by p;
  setup_last = λ p s pong v d. v;
  setup_draws = λ p claim v d. v;
  setup_decides = λ p v e. e;
  stops = λ g reason w. ended_judged r m reason (on_when_read m.phase S aw) j w.2 w.3;
  counts = λ on none few. j;
  offers = λ on none own. j;
  plays = λ text move opened is p read room timely v d. v;
  draws = λ text move opened claim is p read room timely v d. v;
  decides = λ text move opened v is p read room timely e. e;
  passes = λ p said. by p;
})
  where
    by : {p : Phase} → m.phase ≡ p → ByBoard r m.played p
    by e = subst (λ (q : Phase). ByBoard r m.played q) e j

-- a silence keeps `Judged`
silent_judged : (r : Rules) (S : Colour) (moment : ℕ) (m : Match) → awaits_line m.phase S ≡ true → Judged r m
    → Judged r (effect r m (Silent S moment)).after
silent_judged r S moment m aw j = silence_cases r S moment m (λ e. Judged r e.after) (record {
  stops = λ reason w. ended_judged r m reason (on_when_read m.phase S aw) j w.2 w.3;
  goes_on = λ since. j;
})

-- `Judged` holds at the beginning of a match, and each act keeps it, so it holds at the end, where the match is over
pub judged_at_end : (r : Rules) (H : List Act) (final : Match) → IsMatch r H final
    → (is_over final.phase ≡ true) × Judged r final
judged_at_end r H final g = by_cases r final (λ m due K. Judged r m → (is_over final.phase ≡ true) × Judged r final)
    (record {
      sends = λ m end b due K p. p;
      fails = λ m end b due K on p j. p (on_undecided r m.played m.phase on j);
      fails_late = λ m end b due K o p. p;
      reads = λ m end S t n K aw p j. p (line_judged r S (line_kind t) n m aw j);
      opens = λ m end S n K o p j. p (subst (λ (q : Phase). ByBoard r m.played q) o j);
      silent = λ m end S n K aw limited p j. p (silent_judged r S n m aw j);
      ends = λ m end S K aw p j. p (on_undecided r m.played m.phase (on_when_read m.phase S aw) j);
      read_fails = λ m end S K aw p j. p (on_undecided r m.played m.phase (on_when_read m.phase S aw) j);
    }) (λ o j. (o, j)) beginning.after (blocks_from White beginning.to) H g refl

-- what follows of a match in this phase whose board has the verdict `v`
abbrev Ended : Verdict → Match → Phase → Type 0
Ended v final p = (p ≡ Over (Decided v))
    ⊎ ((final.played ≡ []) × (c : Colour) × (fault : MatchFault) × (p ≡ Over (Faulted c fault)))

-- the law: a position with a verdict ends the match
pub verdicts_end_matches : VerdictsEndMatches
verdicts_end_matches r v H final g e =
    let (over, j) = judged_at_end r H final g in at final.phase over j
  where
    same : (w : Verdict) → verdict r.start final.played ≡ Some w → Over (Decided w) ≡ Over (Decided v)
    same w q = let s : Some w ≡ Some v = sym q ∙ e in cc

    never : {A : Type 0} → verdict r.start final.played ≡ None → A
    never n = let no : None ≡ Some v = sym n ∙ e in absurd cc

    -- a match that ended by a fault had no move
    by_fault : (c : Colour) (fault : MatchFault) → Undecided r final.played → Ended v final (Over (Faulted c fault))
    by_fault c fault (inl none) = inr (none, c, fault, refl)
    by_fault c fault (inr n) = never n

    at : (p : Phase) → is_over p ≡ true → ByBoard r final.played p → Ended v final p
    at (Over (Decided w)) o j = inl (same w j)
    at (Over (Faulted c fault)) o j = by_fault c fault j
    at (Over reason) o j = never j
    at p o j = absurd cc
