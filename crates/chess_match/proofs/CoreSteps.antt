-- The code's state `core` and its game stand for a match of the definitions (`Represents`). Here for each kind of step
-- that the core takes: it stands for the match after the effect too, and gives just the lines that the effect sends
-- (`Goes`). The methods of `MatchState` are proved by these lemmas.
use Rattle.std.proofs.Common.{◌≡◌, ◌⊎◌, inl, inr, ℕ, ◌+◌, ◌<◌, Bool, true, false, List, [], ◌∷◌, ◌++◌, length, length-append, refl, ap, sym, ◌∙◌, subst, Option, None, Some, append-nil, zero-add, arith, if◌then◌else◌, ◌-◌, codes, nat_lt, sum, unwrap_or}
use Rattle.std.specs.{Bool.then_some, Option.option_map_or}
use Rattle.std.proofs.lemmas.List.Sums.{sum_by-append}
use Rattle.chess_base.specs.{declared.man.Colour.Colour, declared.man.Colour.TheVariants.White, declared.man.Colour.TheVariants.Black, declared.man.Move.Move, ByColour.with_colour, Men.other, Men.same_colour, Options.list_if}
use Rattle.cecp_engine.specs.Clocks.{ClocksSeen, charged, side_clock, remaining}
use Rattle.cecp_engine.specs.{EngineLines.LineKind, Levels.LevelSeen, Items.Item, Items.takes, Seen.features_of}
use Rattle.chess_match.specs.{Acts.is_over, shared.Parts.enter, shared.Parts.counted, Events.Seat, Lines.SentLine, Lines.Says, Reasons.is_write_fault_of, Reasons.reported_reason, Rules.Rules, declared.phase.Phase.Phase as CorePhase, declared.reason.MatchFault.TheVariants.NoAnswer, declared.reason.Reason.Reason, declared.state.Actions.Actions, declared.state.MatchState.MatchState, declared.state.Player.Player, declared.texts.LastMove.LastMove, declared.texts.MoveTexts.MoveTexts, laws.Laws.items_in_line, ties.Texts.all_sent, ties.Texts.AreOfLast, ties.Texts.AreTexts}
use Rattle.chess_match.specs.Effects.{Match, Phase, Handshake, Opening, BeforeMove, Over, Effect, awaited_since, begins_turn, clock, ends, handshake_row, is_owed_move, line_row, moved, reply_row, sends_nothing, sends_to, over_by_position, silence_row, unless_over, with_seat, with_answers, answers_to}
use Rattle.chess_match.specs.declared.phase.Phase.TheVariants as core_in
use Rattle.chess_match.specs.ties.Represents.{Goes, Keeps, Represents, after_answers, clocks_of, given_lines, is_unsent, items_to, last_lines, lines_if_to, name_by, nothing_said, offered_core, phase_lines, phase_of, played_core, player, side_of}
use Rattle.chess_match.proofs.shared.LineCases.{handshake_by_items}
use Rattle.chess_game.specs.Ends.{verdict}

-- ---- what the core keeps of a match

-- what the core keeps of either side
pub kept : (r : Rules) (core : MatchState) (played : List Move) (m : Match) → Represents r core played m → (S : Colour)
    → Keeps (player core S) (m.seat S)
kept r core played m s White = s.white
kept r core played m s Black = s.black

-- the core's clock of S has counted the moves that S made
pub clocks_moves : (r : Rules) (core : MatchState) (played : List Move) (m : Match) → Represents r core played m
    → (S : Colour) → (side_clock core.clocks S).moves ≡ length (m.seat S).used
clocks_moves r core played m s White = ap (λ (c : ClocksSeen). c.white.moves) s.clocks
clocks_moves r core played m s Black = ap (λ (c : ClocksSeen). c.black.moves) s.clocks

-- the core's clock of S has as much time left as that of the match
pub clocks_left : (r : Rules) (core : MatchState) (played : List Move) (m : Match) → Represents r core played m
    → (S : Colour) → remaining core.clocks S ≡ clock r m S
clocks_left r core played m s White = ap (λ (c : ClocksSeen). remaining c White) s.clocks
clocks_left r core played m s Black = ap (λ (c : ClocksSeen). remaining c Black) s.clocks

-- the flag falls in the core where it falls in the match
pub flag_kept : (r : Rules) (core : MatchState) (played : List Move) (m : Match) (S : Colour) (used elapsed : ℕ)
    (flagged b : Bool) → Represents r core played m → used ≡ elapsed → flagged ≡ nat_lt (remaining core.clocks S) used
    → flagged ≡ b → nat_lt (clock r m S) elapsed ≡ b
flag_kept r core played m S used elapsed flagged b s e f h =
    rw (← clocks_left r core played m s S, ← e) (sym f ∙ h)

-- ---- into another phase

-- the core ends the match for this reason, and gives each side its end lines
pub over_goes : (r : Rules) (core : MatchState) (played : List Move) (reason : Reason) (m : Match)
    → is_over m.phase ≡ false → Represents r core played m
    → Goes r (record core { phase = core_in.Over reason }) played (record { draw = None; entered = true }) nothing_said
    (ends r reason m)
unfolding given_lines
over_goes r core played reason m on s = record {
  stands = let ended : is_over (Over reason) ≡ false → (S : Colour) → is_unsent core.last S ≡ is_owed_move (Over reason) S =
      λ h S. absurd cc in search ended;
  gives = λ S. ap (λ (b : Bool). if is_write_fault_of reason S then []
      else last_lines r m (reported_reason (verdict r.start m.played) reason) b S) (s.unsent on S);
}

-- the core enters the phase `p`, counts lines from 0, and gives the lines of the phase; a side that was not yet sent
-- the last move must be owed it in `p` too (the condition on `is_unsent`)
pub enter_goes : (r : Rules) (core : MatchState) (played : List Move) (p : CorePhase) (m : Match)
    → ((S : Colour) → is_unsent core.last S ≡ is_owed_move (phase_of core.opened p) S) → Represents r core played m
    → Goes r (record core { phase = p; count = 0 }) played (record { draw = None; entered = true }) nothing_said
    (record {
      after = enter (phase_of core.opened p) m;
      to = λ S. phase_lines r core.last (enter (phase_of core.opened p) m) S p;
    })
unfolding given_lines
enter_goes r core played p m owed s = record {
  stands = let entered : is_over (phase_of core.opened p) ≡ false → (S : Colour) → is_unsent core.last S
      ≡ is_owed_move (phase_of core.opened p) S = λ h. owed in search entered;
  gives = λ S. refl;
}

-- sending the last move leaves its texts
still_last : (r : Rules) (last : Option LastMove) (played : List Move) → AreOfLast r last played
    → AreOfLast r (all_sent last) played
still_last r None played h = h
still_last r (Some last) played h = h

-- once the last move is sent nobody is owed it
none_unsent : (last : Option LastMove) (S : Colour) → is_unsent (all_sent last) S ≡ false
none_unsent None S = refl
none_unsent (Some last) S = refl

-- the core opens the turn of S; with the opening the last move is sent
pub open_goes : (r : Rules) (core : MatchState) (played : List Move) (S : Colour) (m : Match)
    → Represents r core played m
    → Goes r (record core { phase = core_in.SendTurn S; count = 0; last = all_sent core.last }) played
    (record { draw = None; entered = true }) nothing_said (begins_turn r S m)
unfolding given_lines
open_goes r core played S m s = record {
  stands = let sent : is_over (Opening S) ≡ false → (X : Colour) → is_unsent (all_sent core.last) X ≡ false =
      λ h. none_unsent core.last in search (still_last r core.last m.played s.last, sent);
  gives = λ X. refl;
}

-- opening the turn of S is opening the turn of X, if X is S
pub first_opens : (r : Rules) (core : MatchState) (played : List Move) (given : Actions) (m : Match) (S X : Colour)
    → S ≡ X → Goes r core played given nothing_said (begins_turn r S m)
    → Goes r core played given nothing_said (begins_turn r X m)
first_opens r core played given m S X e h =
    subst (λ (q : Colour). Goes r core played given nothing_said (begins_turn r q m)) e h

-- the opening was sent, and the clock read: the core awaits the move from this moment on
pub opened_stands : (r : Rules) (core : MatchState) (played : List Move) (S : Colour) (moment : ℕ) (m : Match)
    → m.phase ≡ Opening S → Represents r core played m
    → Represents r (record core { phase = core_in.AwaitMove S; opened = moment }) played
    (record m { phase = BeforeMove S moment })
opened_stands r core played S moment m o s =
    let owed : is_over (BeforeMove S moment) ≡ false → (X : Colour) → is_unsent core.last X ≡ false =
    λ h X. s.unsent (ap is_over o) X ∙ ap (λ (p : Phase). is_owed_move p X) o in search owed

-- ---- in the same phase

-- a line more is counted
pub counted_goes : (r : Rules) (core : MatchState) (played : List Move) (m : Match) → Represents r core played m
    → Goes r (record core { count = core.count + 1 }) played (record { draw = None; entered = false }) nothing_said
    (sends_nothing (record m { count = m.count + 1 }))
unfolding given_lines
counted_goes r core played m s = record { stands = search (s.unsent); gives = λ S. refl }

-- the counts of the core and of the match are both set to `n`
pub recounted : (r : Rules) (core : MatchState) (played : List Move) (m : Match) (n : ℕ) → Represents r core played m
    → Represents r (record core { count = n }) played (record m { count = n })
recounted r core played m n s = search (s.unsent)

-- the offer of S is opened in the core and in the match
pub offered_stands : (r : Rules) (core : MatchState) (played : List Move) (S : Colour) (m : Match)
    → Represents r core played m
    → Represents r (offered_core core S) played (with_seat S (λ s. record s { offers = true }) m)
offered_stands r core played White m s = search (s.unsent)
offered_stands r core played Black m s = search (s.unsent)

-- the lines `d` go to the side O alone, and only if the flag `t` says so
draw_given : (t : Bool) (O X : Colour) (d : List SentLine)
    → lines_if_to (then_some t O) X d ++ [] ≡ list_if (same_colour O X) (list_if t d)
draw_given t O X d = grind (arith, append-nil)

-- the offer of S is opened, and given to the other side alone, if that takes offers
pub offered_goes : (r : Rules) (core : MatchState) (played : List Move) (S : Colour) (m : Match) (t : Bool)
    → Represents r core played m → takes (codes "draw") (m.seat (other S)).items ≡ t
    → Goes r (offered_core core S) played (record { draw = then_some t (other S); entered = false }) nothing_said
    (sends_to (other S) (list_if (takes (codes "draw") (m.seat (other S)).items) (Says (codes "draw") ∷ []))
    (with_seat S (λ s. record s { offers = true }) m))
unfolding given_lines
offered_goes r core played S m t s e = record {
  stands = offered_stands r core played S m s;
  gives = λ X. draw_given t (other S) X (Says (codes "draw") ∷ [])
      ∙ ap (λ (b : Bool). list_if (same_colour (other S) X) (list_if b (Says (codes "draw") ∷ []))) (sym e);
}

pub features-draw : (items : List Item) → (features_of items).draw ≡ takes (codes "draw") items
unfolding features_of
features-draw items = refl

-- ---- a move

pub sum-snoc : (xs : List ℕ) (x : ℕ) → sum (xs ++ x ∷ []) ≡ sum xs + x
sum-snoc xs x = sum_by-append (λ (n : ℕ). n) xs (x ∷ []) ∙ ap (λ n. sum xs + n) (zero-add x)

-- a side's clock after one move more: one move and its time are added
side-snoc : (level : LevelSeen) (s : Seat) (used : ℕ) (offers : Bool)
    → record { level = level; moves = length s.used + 1; used = sum s.used + used }
    ≡ side_of level (record { items = s.items; used = s.used ++ used ∷ []; offers = offers })
side-snoc level s used offers =
    let l : length (s.used ++ used ∷ []) ≡ length s.used + 1 = length-append s.used (used ∷ []) in
    rw (l, sum-snoc s.used used) refl

-- charging the clock of S in the core is what a move of S does to the clocks of the match
charged_clocks : (r : Rules) (core : MatchState) (S : Colour) (move : Move) (used : ℕ) (m : Match)
    → core.clocks ≡ clocks_of r.level m
    → charged core.clocks S used ≡ clocks_of r.level (moved S move used m)
charged_clocks r core S move used m e =
    grind (
      arith,
      side-snoc (r.level White) (m.seat White) used (m.seat White).offers,
      side-snoc (r.level Black) (m.seat Black) used (m.seat Black).offers,
    )

-- the texts of a move that was played are those of the last move
last_played : (r : Rules) (texts : MoveTexts) (played before : List Move) (move : Move) → played ≡ before
    → AreTexts r texts (played ++ move ∷ [])
    → (0 < length (before ++ move ∷ [])) × AreTexts r texts (before ++ move ∷ [])
last_played r texts played before move e t =
    let some : length (before ++ move ∷ []) ≡ length before + 1 = length-append before (move ∷ []) in
    (omega (arith, some), subst (λ (ms : List Move). AreTexts r texts (ms ++ move ∷ [])) e t)

-- a move was played: the core with the clock charged and the texts kept stands for the match after the move
pub moved_stands : (r : Rules) (core : MatchState) (played : List Move) (S : Colour) (move : Move) (used : ℕ)
    (m : Match) (texts : MoveTexts) → Represents r core played m → AreTexts r texts (played ++ move ∷ [])
    → Represents r (played_core core S used texts) (played ++ move ∷ []) (moved S move used m)
moved_stands r core played White move used m texts s t =
    search (
      ap (λ (xs : List Move). xs ++ move ∷ []) s.moves,
      last_played r texts played m.played move s.moves t,
      charged_clocks r core White move used m s.clocks,
    )
moved_stands r core played Black move used m texts s t =
    search (
      ap (λ (xs : List Move). xs ++ move ∷ []) s.moves,
      last_played r texts played m.played move s.moves t,
      charged_clocks r core Black move used m s.clocks,
    )

-- the side that moved is sent its `ping`
pub pinged_goes : (r : Rules) (core : MatchState) (played : List Move) (S : Colour) (m : Match)
    → core.phase ≡ core_in.AwaitPong S → Represents r core played m
    → Goes r core played (record { draw = None; entered = true }) nothing_said
    (record { after = m; to = λ X. phase_lines r core.last m X (core_in.AwaitPong S) })
unfolding given_lines
pinged_goes r core played S m e s = record {
  stands = s;
  gives = λ X. ap (λ (p : CorePhase). phase_lines r core.last m X p) e;
}

-- the match ends if its position says so (`over` is the reason), or goes on as in `otherwise`
pub over_by_goes : (r : Rules) (core : MatchState) (played : List Move) (given : Actions) (items : Colour → List Item)
    (m : Match) (over : Option Reason) (otherwise : Effect) → over_by_position r m.played ≡ over
    → Goes r core played given items (option_map_or (λ reason. ends r reason m) over otherwise)
    → Goes r core played given items (unless_over r m otherwise)
over_by_goes r core played given items m over otherwise e g =
    subst (λ (o : Option Reason). Goes r core played given items (option_map_or (λ reason. ends r reason m) o otherwise))
    (sym e) g

-- what was shown of a line's row in the phase `p` holds of the match's own phase, which is `p`
pub row_goes : (r : Rules) (core : MatchState) (played : List Move) (given : Actions) (items : Colour → List Item)
    (kind : LineKind) (moment : ℕ) (m : Match) (p : Phase) → m.phase ≡ p
    → Goes r core played given items (line_row r p kind moment m)
    → Goes r core played given items (line_row r m.phase kind moment m)
row_goes r core played given items kind moment m p e h =
    subst (λ (q : Phase). Goes r core played given items (line_row r q kind moment m)) (sym e) h

-- what was shown of a silence's row in the phase `p` holds of the match's own phase, which is `p`
pub silence_goes : (r : Rules) (core : MatchState) (played : List Move) (given : Actions) (items : Colour → List Item)
    (S : Colour) (moment : ℕ) (m : Match) (p : Phase) → m.phase ≡ p
    → Goes r core played given items (silence_row r p S moment m)
    → Goes r core played given items (silence_row r m.phase S moment m)
silence_goes r core played given items S moment m p e h =
    subst (λ (q : Phase). Goes r core played given items (silence_row r q S moment m)) (sym e) h

-- a silence in a setup or after a move: what is owed is a `pong`, and the fault is `NoAnswer`
pub owed_goes : (r : Rules) (core : MatchState) (played : List Move) (given : Actions) (items : Colour → List Item)
    (S : Colour) (moment opened : ℕ) (m : Match) (p : CorePhase)
    → ((x : Colour) × (p ≡ core_in.Setup x)) ⊎ ((x : Colour) × (p ≡ core_in.AwaitPong x)) → m.phase ≡ phase_of opened p
    → Goes r core played given items (reply_row r S NoAnswer moment m)
    → Goes r core played given items (silence_row r m.phase S moment m)
owed_goes r core played given items S moment opened m p (inl (x, e)) at h =
    silence_goes r core played given items S moment m _ (at ∙ ap (phase_of opened) e) h
owed_goes r core played given items S moment opened m p (inr (x, e)) at h =
    silence_goes r core played given items S moment m _ (at ∙ ap (phase_of opened) e) h

-- ---- a reply

-- nothing changes, and nothing is sent
pub quiet_goes : (r : Rules) (core : MatchState) (played : List Move) (m : Match) → Represents r core played m
    → Goes r core played (record { draw = None; entered = false }) nothing_said (sends_nothing m)
unfolding given_lines
quiet_goes r core played m s = record { stands = s; gives = λ S. refl }

-- a silence within the limit: nothing is sent, and the time for the reply runs from `since`, which is the silence's
-- moment if it didn't run before
pub quiet_since : (r : Rules) (core core' : MatchState) (played : List Move) (m : Match) (moment since : ℕ)
    → Represents r core played m → since ≡ unwrap_or core.since moment
    → Represents r core' played (awaited_since since m)
    → Goes r core' played (record { draw = None; entered = false }) nothing_said
    (sends_nothing (awaited_since (unwrap_or m.since moment) m))
quiet_since r core core' played m moment since s e stands =
    subst (λ (n : ℕ). Goes r core' played (record { draw = None; entered = false }) nothing_said
    (sends_nothing (awaited_since n m))) (e ∙ ap (λ (x : Option ℕ). unwrap_or x moment) s.since)
    (quiet_goes r core' played (awaited_since since m) stands)

-- the time for a reply is over in the core where it is over in the match
pub reply_kept : (r : Rules) (core : MatchState) (played : List Move) (m : Match) (moment since waited : ℕ)
    (beyond b : Bool) → Represents r core played m → since ≡ unwrap_or core.since moment → waited ≡ moment - since
    → beyond ≡ option_map_or (λ l. nat_lt l waited) core.patience.reply false → beyond ≡ b
    → option_map_or (λ limit. nat_lt limit (moment - unwrap_or m.since moment)) r.patience.reply false ≡ b
reply_kept r core played m moment since waited beyond b s from so_long is h =
    rw (← s.patience, ← s.since, ← from, ← so_long) (sym is ∙ h)

-- ---- a handshake

-- what was shown of the items of a line in a handshake (`handshake_row`) holds of the line
pub shaken_goes : (r : Rules) (core : MatchState) (played : List Move) (given : Actions) (items : Colour → List Item)
    (S : Colour) (kind : LineKind) (moment : ℕ) (m : Match)
    → Goes r core played given items (handshake_row r S (items_in_line kind) (counted kind moment m))
    → Goes r core played given items (line_row r (Handshake S) kind moment m)
shaken_goes r core played given items S kind moment m h =
    subst (λ (e : Effect). Goes r core played given items e) (sym (handshake_by_items r S kind moment m)) h

-- the core, with `p` as what it keeps of the engine of S
abbrev pub items_core : MatchState → Colour → Player → MatchState
items_core core S p = record core { players = with_colour core.players S p }

-- if features and name kept of S are those of its items so far and of `items`, the core stands for the match with
-- `items` added
pub items_stand : (r : Rules) (core : MatchState) (played : List Move) (S : Colour) (p : Player) (items : List Item)
    (m : Match) → Represents r core played m
    → p.features ≡ features_of ((m.seat S).items ++ items) → p.name ≡ name_by ((m.seat S).items ++ items)
    → p.offers ≡ (player core S).offers
    → Represents r (items_core core S p) played (with_seat S (λ s. record s { items = s.items ++ items }) m)
items_stand r core played White p items m s e n o = search (o ∙ s.white.offers, s.unsent)
items_stand r core played Black p items m s e n o = search (o ∙ s.black.offers, s.unsent)

-- a line without items leaves what the core stands for
pub no_items_stand : (r : Rules) (core : MatchState) (played : List Move) (S : Colour) (m : Match)
    → Represents r core played m
    → Represents r core played (with_seat S (λ s. record s { items = s.items ++ [] }) m)
no_items_stand r core played White m s = search (append-nil (m.seat White).items, s.unsent)
no_items_stand r core played Black m s = search (append-nil (m.seat Black).items, s.unsent)

-- an effect with the answers to a line's items sent before its lines
pub answered_goes : (r : Rules) (core : MatchState) (played : List Move) (given : Actions) (S : Colour)
    (items : List Item) (e : Effect) → Goes r core played given nothing_said e
    → Goes r core played given (items_to S items) (with_answers S items e)
unfolding given_lines
answered_goes r core played given S items e g = record {
  stands = g.stands;
  gives = λ X. answers_if X (same_colour S X) ∙ ap (λ (l : List SentLine). list_if (same_colour S X) (answers_to items)
      ++ l) (g.gives X);
}
  where
    answers_if : (X : Colour) (b : Bool)
        → answers_to (if b then items else []) ++ after_answers r core given e.after X
        ≡ list_if b (answers_to items) ++ after_answers r core given e.after X
    answers_if X true = refl
    answers_if X false = refl
