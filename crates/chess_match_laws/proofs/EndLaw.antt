-- A match has no move after a verdict, none beyond the limit, and where draws are automatic none once a draw may be
-- claimed. The invariant (`Goes`), which each act keeps, says so of the moves so far, and in a turn also that the next
-- may be made.
use Rattle.std.proofs.Common.{◌≡◌, ◌∙◌, ℕ, ◌+◌, ◌≤◌, ◌<◌, Bool, true, false, List, [], ◌∷◌, ◌++◌, length, length-append, take, refl, sym, ap, subst, None, arith, nat_lt}
use Rattle.std.proofs.{Math.Seq.take-append_seam, lemmas.Bool.Decides.nat_tests, lemmas.List.take-append-le}
use Rattle.chess_base.specs.{declared.man.Colour.Colour, declared.man.Colour.TheVariants.White, declared.man.Move.Move}
use Rattle.cecp_engine.specs.EngineLines.{LineKind}
use Rattle.chess_game.specs.Ends.{claims, draw_claim, verdict}
use Rattle.chess_match.specs.{Acts.awaits_line, Acts.blocks_from, Events.Silent, Rules.Rules, declared.draws.Draws.Draws, declared.draws.Draws.TheVariants.Automatic, laws.Laws.line_kind}
use Rattle.chess_match.specs.Effects.{Match, Phase, Opening, BeforeMove, AfterMove, beginning, effect, if_automatic, line_row}
use Rattle.chess_match.proofs.{shared.LineCases.draw_by_itself, shared.LineCases.line_cases, shared.LineCases.silence_cases, shared.MatchCases.by_cases}
use Rattle.chess_match_laws.specs.OfActs.{EndsAtVerdicts, InEachMatch}

-- whether a match in this phase is in a turn
abbrev in_game : Phase → Bool
in_game (Opening S) = true
in_game (BeforeMove S opened) = true
in_game (AfterMove S) = true
in_game _ = false

-- after these moves there is no verdict, and no draw that needs no claim
abbrev Undecided : Rules → List Move → Type 0
Undecided r ms = (verdict r.start ms ≡ None) × (draw_by_itself r ms ≡ None)

-- before each of these moves there was no verdict, and no draw that needs no claim
abbrev WasUndecided : Rules → List Move → Type 0
WasUndecided r ms = (k : ℕ) → k < length ms → Undecided r (take k ms)

-- the invariant: there are no more moves than the limit, before each of them there was neither verdict nor such a draw,
-- and in a turn there is neither now
abbrev Goes : Rules → Match → Type 0
Goes r m = (length m.played ≤ r.limit) × WasUndecided r m.played × (in_game m.phase ≡ true → Undecided r m.played)

-- with one move more, made where there was neither, there was neither before each move
one_more : (r : Rules) (ms : List Move) (move : Move) → WasUndecided r ms → Undecided r ms
    → WasUndecided r (ms ++ move ∷ [])
one_more r ms move before now k few = at (nat_lt k (length ms)) refl
  where
    longer : length (ms ++ move ∷ []) ≡ length ms + 1
    longer = length-append ms (move ∷ [])

    at : (b : Bool) → nat_lt k (length ms) ≡ b → Undecided r (take k (ms ++ move ∷ []))
    at true e =
        let short : k < length ms = grind (arith, nat_tests, e) in
        subst (Undecided r) (sym (take-append-le k ms (move ∷ []) (omega (arith, short)))) (before k short)
    at false e =
        let long : length ms ≤ k = grind (arith, nat_tests, e) in
        let last : k ≡ length ms = omega (arith, long, few, longer) in
        subst (Undecided r) (sym (ap (λ n. take n (ms ++ move ∷ [])) last ∙ take-append_seam ms (move ∷ []))) now

room_for : (limit : ℕ) (ms : List Move) (move : Move) → length ms < limit → length (ms ++ move ∷ []) ≤ limit
room_for limit ms move room = let longer = length-append ms (move ∷ []) in omega (arith, room, longer)

-- any line keeps the invariant
line_goes : (r : Rules) (S : Colour) (kind : LineKind) (moment : ℕ) (m : Match) → awaits_line m.phase S ≡ true
    → Goes r m → Goes r (line_row r m.phase kind moment m).after
line_goes r S kind moment m aw g = line_cases r S kind moment m (λ e. Goes r e.after) aw (λ since. record {
  handshake_stops = λ p reason k most w. (g.0, g.1, λ on. absurd (cc));
  handshake_counts = λ p d few. g;
  handshake_next = λ p s d. (g.0, g.1, λ on. absurd (cc));
  handshake_last = λ p s d. (g.0, g.1, λ on. absurd (cc));
  setup_counts = λ p pong few. g;
  setup_next = λ p s pong. (g.0, g.1, λ on. absurd (cc));
  setup_last = λ p s pong v d. (g.0, g.1, λ on. (v, d));
  setup_draws = λ p claim v d. (g.0, g.1, λ on. absurd (cc));
  setup_decides = λ p v e. (g.0, g.1, λ on. absurd (cc));
  stops = λ done reason w. (g.0, g.1, λ on. absurd (cc));
  counts = λ on none few. g;
  offers = λ on none own. g;
  plays = λ text move opened is p read room timely v d. (
    room_for r.limit m.played move room,
    one_more r m.played move g.1 (g.2 (ap in_game p)),
    λ on. (v, d),
  );
  draws = λ text move opened claim is p read room timely v d. (
    room_for r.limit m.played move room,
    one_more r m.played move g.1 (g.2 (ap in_game p)),
    λ on. absurd (cc),
  );
  decides = λ text move opened v is p read room timely e. (
    room_for r.limit m.played move room,
    one_more r m.played move g.1 (g.2 (ap in_game p)),
    λ on. absurd (cc),
  );
  passes = λ p said. (g.0, g.1, λ on. g.2 (ap in_game p));
})

-- a silence keeps `Goes`
silent_goes : (r : Rules) (S : Colour) (moment : ℕ) (m : Match) → Goes r m → Goes r (effect r m (Silent S moment)).after
silent_goes r S moment m g = silence_cases r S moment m (λ e. Goes r e.after) (record {
  stops = λ reason w. (g.0, g.1, λ on. absurd (cc));
  goes_on = λ since. g;
})

pub ends_at_verdicts : InEachMatch EndsAtVerdicts
ends_at_verdicts r H final is =
    let goes : Goes r final = by_cases r final (λ m due K. Goes r m → Goes r final)
    (record {
      sends = λ m end b due K p. p;
      fails = λ m end b due K on p g. p (g.0, g.1, λ now. absurd (cc));
      fails_late = λ m end b due K o p. p;
      reads = λ m end S t n K aw p g. p (line_goes r S (line_kind t) n m aw g);
      opens = λ m end S n K o p g. p (g.0, g.1, λ now. g.2 (ap in_game o));
      silent = λ m end S n K aw limited p g. p (silent_goes r S n m g);
      ends = λ m end S K aw p g. p (g.0, g.1, λ now. absurd (cc));
      read_fails = λ m end S K aw p g. p (g.0, g.1, λ now. absurd (cc));
    }) (λ o g. g) beginning.after (blocks_from White beginning.to) H is
    (omega arith, (λ k few. absurd (omega (arith, few))), λ on. absurd (cc)) in
    (goes.0, (λ k few. (goes.1 k few).0), λ automatic k few. sym (by_itself automatic k) ∙ (goes.1 k few).1)
  where
    by_itself : r.draws ≡ Automatic → (k : ℕ)
        → draw_by_itself r (take k final.played) ≡ draw_claim (claims r.start (take k final.played))
    by_itself automatic k =
        ap (λ (d : Draws). if_automatic d (draw_claim (claims r.start (take k final.played)))) automatic
