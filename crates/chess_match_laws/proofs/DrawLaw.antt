-- Where draws are automatic: if a draw may be claimed after the moves of a match, and the board has no verdict, the
-- match ended for this draw, or by a fault before its first move. The invariant (`Drawn`), which each act keeps: before
-- the first turn there is no move, and later, while the match is on, no such draw.
use Rattle.std.proofs.Common.{◌≡◌, ◌⊎◌, true, false, List, [], refl, ap, sym, ◌∙◌, subst, inl, inr, None, Some}
use Rattle.chess_base.specs.{declared.man.Colour.Colour, declared.man.Colour.TheVariants.White, declared.man.Move.Move}
use Rattle.chess_game.specs.{declared.verdicts.DrawClaim.DrawClaim, declared.verdicts.Verdict.Verdict, Ends.claims, Ends.draw_claim, Ends.verdict}
use Rattle.cecp_engine.specs.EngineLines.{LineKind}
use Rattle.chess_match.specs.{laws.Laws.line_kind, Events.Silent, Rules.Rules, declared.draws.Draws.Draws, declared.reason.MatchFault.MatchFault, declared.reason.Reason.Reason, declared.reason.Reason.TheVariants.Claimed, declared.reason.Reason.TheVariants.Faulted}
use Rattle.chess_match.specs.Acts.{Act, IsMatch, awaits_line, blocks_from, is_over}
use Rattle.chess_match.specs.Effects.{Match, Phase, Handshake, Setup, Over, beginning, effect, if_automatic, line_row}
use Rattle.chess_match.proofs.shared.LineCases.{draw_by_itself, in_turn, is_fault, line_cases, silence_cases}
use Rattle.chess_match.proofs.shared.MatchCases.{by_cases, on_when_read}
use Rattle.chess_match_laws.specs.OfActs.{AutomaticDrawsEndMatches}

-- a match that ended for this reason has no draw that needs no claim; or it had no move and ended by a fault; or it
-- ended for that draw; or the board has a verdict
abbrev EndedBy : Rules → List Move → Reason → Type 0
EndedBy r played reason = (draw_by_itself r played ≡ None) ⊎ ((is_fault reason ≡ true) × (played ≡ []))
    ⊎ ((claim : DrawClaim) × (reason ≡ Claimed claim) × (draw_by_itself r played ≡ Some claim))
    ⊎ ((v : Verdict) × (verdict r.start played ≡ Some v))

-- before the first turn there is no move, and in any other phase up to the end no draw that needs no claim
abbrev ByDraw : Rules → List Move → Phase → Type 0
ByDraw r played (Over reason) = EndedBy r played reason
ByDraw r played (Handshake c) = played ≡ []
ByDraw r played (Setup c) = played ≡ []
ByDraw r played _ = draw_by_itself r played ≡ None

-- `ByDraw` of a match's moves and phase
abbrev Drawn : Rules → Match → Type 0
Drawn r m = ByDraw r m.played m.phase

-- a match that is on ends for this reason: before the first turn it is a fault, and no move was played; later there is
-- no draw that needs no claim
ended : (r : Rules) (played : List Move) (reason : Reason) (p : Phase) → is_over p ≡ false → ByDraw r played p
    → (in_turn p ≡ false → is_fault reason ≡ true) → EndedBy r played reason
ended r played reason (Handshake c) on j fault = inr (inl (fault refl, j))
ended r played reason (Setup c) on j fault = inr (inl (fault refl, j))
ended r played reason (Over x) on j fault = absurd cc
ended r played reason _ on j fault = inl j

-- any line keeps `Drawn`
line_drawn : (r : Rules) (S : Colour) (kind : LineKind) (moment : _) (m : Match) → awaits_line m.phase S ≡ true
    → Drawn r m → Drawn r (line_row r m.phase kind moment m).after
line_drawn r S kind moment m aw j = line_cases r S kind moment m (λ e. Drawn r e.after) aw (λ since. record {
  handshake_stops = λ p reason k most w. ended r m.played reason m.phase (on_when_read m.phase S aw) j w.3;
  handshake_counts = λ p d few. j;
  handshake_next = λ p s d. by p;
  handshake_last = λ p s d. by p;
  setup_counts = λ p pong few. j;
  setup_next = λ p s pong. by p;
  setup_last = λ p s pong v d. d;
  setup_draws = λ p claim v d. inr (inr (inl (claim, refl, d)));
  setup_decides = λ p v e. inr (inr (inr (v, e)));
  stops = λ g reason w. ended r m.played reason m.phase (on_when_read m.phase S aw) j w.3;
  counts = λ on none few. j;
  offers = λ on none own. j;
  plays = λ text move opened is p read room timely v d. d;
  draws = λ text move opened claim is p read room timely v d. inr (inr (inl (claim, refl, d)));
  decides = λ text move opened v is p read room timely e. inr (inr (inr (v, e)));
  passes = λ p said. by p;
})
  where
    by : {p : Phase} → m.phase ≡ p → ByDraw r m.played p
    by e = subst (λ (q : Phase). ByDraw r m.played q) e j

-- a silence keeps `Drawn`
silent_drawn : (r : Rules) (S : Colour) (moment : _) (m : Match) → awaits_line m.phase S ≡ true → Drawn r m
    → Drawn r (effect r m (Silent S moment)).after
silent_drawn r S moment m aw j = silence_cases r S moment m (λ e. Drawn r e.after) (record {
  stops = λ reason w. ended r m.played reason m.phase (on_when_read m.phase S aw) j w.3;
  goes_on = λ since. j;
})

-- `Drawn` holds at the beginning, and each act keeps it, so it holds at the end, where the match is over
drawn_at_end : (r : Rules) (H : List Act) (final : Match) → IsMatch r H final
    → (is_over final.phase ≡ true) × Drawn r final
drawn_at_end r H final g = by_cases r final (λ m due K. Drawn r m → (is_over final.phase ≡ true) × Drawn r final)
    (record {
      sends = λ m end b due K p. p;
      fails = λ m end b due K on p j. p (ended r m.played _ m.phase on j (λ off. refl));
      fails_late = λ m end b due K o p. p;
      reads = λ m end S t n K aw p j. p (line_drawn r S (line_kind t) n m aw j);
      opens = λ m end S n K o p j. p (subst (λ (q : Phase). ByDraw r m.played q) o j);
      silent = λ m end S n K aw limited p j. p (silent_drawn r S n m aw j);
      ends = λ m end S K aw p j. p (ended r m.played _ m.phase (on_when_read m.phase S aw) j (λ off. refl));
      read_fails = λ m end S K aw p j. p (ended r m.played _ m.phase (on_when_read m.phase S aw) j (λ off. refl));
    }) (λ o j. (o, j)) beginning.after (blocks_from White beginning.to) H g refl

-- a reason that is a fault names a side and the fault
of_fault : (reason : Reason) → is_fault reason ≡ true
    → (c : Colour) × (fault : MatchFault) × (Over reason ≡ Over (Faulted c fault))
of_fault (Faulted c fault) is = (c, fault, refl)
of_fault reason is = absurd cc

-- what follows of a match in this phase with the draw `claim`
abbrev Ended : DrawClaim → Match → Phase → Type 0
Ended claim final p = (p ≡ Over (Claimed claim))
    ⊎ ((final.played ≡ []) × (c : Colour) × (fault : MatchFault) × (p ≡ Over (Faulted c fault)))

pub automatic_draws_end_matches : AutomaticDrawsEndMatches
automatic_draws_end_matches r claim H final g automatic none e =
    let (over, j) = drawn_at_end r H final g in at final.phase over j
  where
    drawn : draw_by_itself r final.played ≡ Some claim
    drawn = ap (λ (d : Draws). if_automatic d (draw_claim (claims r.start final.played))) automatic ∙ e

    by : (reason : Reason) → EndedBy r final.played reason → Ended claim final (Over reason)
    by reason (inl n) = let no : None ≡ Some claim = sym n ∙ drawn in absurd cc
    by reason (inr (inl (is, empty))) = let (c, fault, same) = of_fault reason is in inr (empty, c, fault, same)
    by reason (inr (inr (inl (other, is, d)))) =
        let same : Some other ≡ Some claim = sym d ∙ drawn in
        let claimed : other ≡ claim = cc in
        inl (ap Over is ∙ ap (λ (x : DrawClaim). Over (Claimed x)) claimed)
    by reason (inr (inr (inr (v, s)))) = let no : None ≡ Some v = sym none ∙ s in absurd cc

    at : (p : Phase) → is_over p ≡ true → ByDraw r final.played p → Ended claim final p
    at (Over reason) o j = by reason j
    at p o j = absurd cc
