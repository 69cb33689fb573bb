-- Whenever the clock is read for the opening of a turn, both engines have what the match needs. The invariant
-- (`Needed`) says so of each match whose handshakes are done and that is on; each act keeps it, since a match in which
-- an engine lacks something ends with Black's handshake.
use Rattle.std.proofs.Common.{◌≡◌, ℕ, ◌+◌, ◌-◌, Bool, true, false, not, ◌&&◌, List, [], ◌∷◌, refl, sym, ap, subst, Option, None, Some, codes, if◌then◌else◌, is_some, nat_le}
use Rattle.std.specs.List.{list_any}
use Rattle.chess_base.specs.{declared.man.Colour.Colour, declared.man.Colour.TheVariants.White, declared.man.Colour.TheVariants.Black}
use Rattle.chess_base.proofs.shared.Men.{same_colour-true}
use Rattle.chess_text.specs.San.{is_fischerandom}
use Rattle.cecp_engine.specs.EngineLines.{LineKind}
use Rattle.cecp_engine.specs.Items.{Item, ends_handshake, plays_fischerandom, takes}
use Rattle.chess_match.specs.Acts.{Block, Happens, IsMatchFrom, awaits_line}
use Rattle.chess_match.specs.Effects.{Effect, Match, Phase, Handshake, Setup, Opening, BeforeMove, AfterMove, Over, ends, handshake_done, handshake_row, judged, line_row, missing, sends_nothing}
use Rattle.chess_match.specs.{Events.Opened, shared.Parts.counted, Rules.Rules, Rules.start_fen, declared.reason.MatchFault.MatchFault, declared.reason.Reason.TheVariants.Faulted, laws.Laws.items_in_line, laws.Laws.line_kind}
use Rattle.chess_match.specs.declared.reason.MatchFault.TheVariants.{NoDone, NoPing, NoSetboard, NoVariant}
use Rattle.chess_match.proofs.shared.LineCases.{handshake_by_items, handshakes_done, line_cases, said_by}
use Rattle.chess_match.proofs.shared.MatchCases.{both_not}
use Rattle.chess_match_laws.specs.{OfActs.AtEachOpening, Handshakes.BothHaveNeeded, Handshakes.HasNeeded}
use Rattle.chess_match_laws.proofs.{OfferedLaw.not_early, Points.by_points, Points.moved_items, Points.offered_items, Silences.by_silence}

-- ---- nothing is missing

-- what follows of `missing`, if it is `None`: each test that it makes fails
parts : (ping sent set is_960 plays : Bool)
    → (if not ping then Some NoPing else if sent && not set then Some NoSetboard
    else if is_960 && not plays then Some NoVariant else None) ≡ None
    → (ping ≡ true) × (sent ≡ true → set ≡ true) × (is_960 ≡ true → plays ≡ true)
parts false sent set is_960 plays e = absurd (cc)
parts true true false is_960 plays e = absurd (cc)
parts true true true true false e = absurd (cc)
parts true true true true true e = (refl, λ h. refl, λ h. refl)
parts true true true false plays e = (refl, λ h. refl, λ h. absurd (let f : false ≡ true = h in cc))
parts true false set true false e = absurd (cc)
parts true false set true true e = (refl, λ h. absurd (let f : false ≡ true = h in cc), λ h. refl)
parts true false set false plays e =
    (refl, λ h. absurd (let f : false ≡ true = h in cc), λ h. absurd (let f : false ≡ true = h in cc))

-- an engine that lacks nothing has what is needed
has_all : (r : Rules) (items : List Item) → missing r items ≡ None → HasNeeded r items
has_all r items e =
    let q = parts (takes (codes "ping") items) (is_some (start_fen r.start)) (takes (codes "setboard") items)
    (is_fischerandom r.start.variant) (plays_fischerandom items) e in record {
      ping = q.0;
      setboard = q.1;
      variant = λ v. q.2 (ap is_fischerandom v);
    }

-- ---- phases

-- both handshakes are done, and the match is on
abbrev is_shaken : Phase → Bool
is_shaken (Handshake c) = false
is_shaken (Over reason) = false
is_shaken _ = true

-- a phase that awaits a line, with the handshakes done, is such a phase
shaken_by : (p : Phase) (C : Colour) → handshakes_done p ≡ true → awaits_line p C ≡ true → is_shaken p ≡ true
shaken_by (Handshake c) C done aw = absurd (cc)
shaken_by (Setup c) C done aw = refl
shaken_by (Opening c) C done aw = absurd (cc)
shaken_by (BeforeMove c opened) C done aw = refl
shaken_by (AfterMove c) C done aw = refl
shaken_by (Over reason) C done aw = absurd (cc)

module _ (r : Rules) where
  -- the invariant: once both handshakes are done, each engine has what the match needs
  abbrev Needed : Match → Type 0
  Needed m = is_shaken m.phase ≡ true → (X : Colour) → HasNeeded r (m.seat X).items

  -- ---- a line of a handshake

  -- both engines are judged by what they lack
  judged_needed : (m : Match) (w b : Option MatchFault) → missing r (m.seat White).items ≡ w
      → missing r (m.seat Black).items ≡ b → Needed (judged r w b m).after
  judged_needed m (Some f) b e h = λ on. not_early on
  judged_needed m None (Some f) e h = λ on. not_early on
  judged_needed m None None e h = λ on X. at X
    where
      at : (X : Colour) → HasNeeded r (m.seat X).items
      at White = has_all r (m.seat White).items e
      at Black = has_all r (m.seat Black).items h

  -- a handshake is done
  done_needed : (c : Colour) (m : Match) → Needed (handshake_done r c m).after
  done_needed White m = λ on. not_early on
  done_needed Black m =
      judged_needed m (missing r (m.seat White).items) (missing r (m.seat Black).items) refl refl

  -- a line in a handshake
  shaking : (C : Colour) (kind : LineKind) (m : Match) → is_shaken m.phase ≡ false
      → Needed (handshake_row r C (items_in_line kind) m).after
  shaking C kind m off = at (list_any ends_handshake (items_in_line kind)) (nat_le 1000 (m.count + 1))
    where
      n : Match
      n = said_by C kind m

      at : (done full : Bool) → Needed (if done then handshake_done r C n
          else if full then ends r (Faulted C NoDone) n else sends_nothing (record n { count = m.count + 1 })).after
      at true full = done_needed C n
      at false true = λ on. not_early on
      at false false = λ on. both_not (is_shaken m.phase) off on

  -- ---- any line

  -- any line keeps the invariant
  line : (C : Colour) (kind : LineKind) (moment : ℕ) (m : Match) → awaits_line m.phase C ≡ true → Needed m
      → Needed (line_row r m.phase kind moment m).after
  line C kind moment m aw needed = at (handshakes_done m.phase) refl
    where
      later : handshakes_done m.phase ≡ true → Needed (line_row r m.phase kind moment m).after
      later done =
          let have : (X : Colour) → HasNeeded r (m.seat X).items = needed (shaken_by m.phase C done aw) in
          line_cases r C kind moment m (λ e. Needed e.after) aw (λ since.
          let k : Match = record m { since = since } in record {
            handshake_stops = λ p reason count most w on. not_early on;
            handshake_counts = λ p d few. both_not (handshakes_done m.phase) (ap handshakes_done p) done;
            handshake_next = λ p s d. both_not (handshakes_done m.phase) (ap handshakes_done p) done;
            handshake_last = λ p s d. both_not (handshakes_done m.phase) (ap handshakes_done p) done;
            setup_counts = λ p pong few on. have;
            setup_next = λ p s pong on. have;
            setup_last = λ p s pong v d on. have;
            setup_draws = λ p claim v d on. not_early on;
            setup_decides = λ p v e on. not_early on;
            stops = λ g reason w on. not_early on;
            counts = λ turn none few on. have;
            offers = λ turn none own on X. subst (λ (items : List Item). HasNeeded r items)
                (sym (offered_items C X k)) (have X);
            plays = λ text move opened is p read room timely v d on X. subst (λ (items : List Item). HasNeeded r items)
                (sym (moved_items C X move (moment - opened) k)) (have X);
            draws = λ text move opened claim is p read room timely v d on. not_early on;
            decides = λ text move opened v is p read room timely e on. not_early on;
            passes = λ p none on. have;
          })

      early : (p : Phase) → m.phase ≡ p → handshakes_done p ≡ false → awaits_line p C ≡ true
          → Needed (line_row r p kind moment m).after
      early (Handshake c) e off a =
          subst (λ (x : Colour). Needed (line_row r (Handshake x) kind moment m).after) (sym (same_colour-true c C a))
          (subst (λ (x : Effect). Needed x.after) (sym (handshake_by_items r C kind moment m))
          (shaking C kind (counted kind moment m) (ap is_shaken e)))
      early (Setup c) e off a = absurd (cc)
      early (Opening c) e off a = absurd (cc)
      early (BeforeMove c opened) e off a = absurd (cc)
      early (AfterMove c) e off a = absurd (cc)
      early (Over reason) e off a = absurd (cc)

      at : (b : Bool) → handshakes_done m.phase ≡ b → Needed (line_row r m.phase kind moment m).after
      at true done = later done
      at false off = early m.phase refl off aw

pub both_have_needed : AtEachOpening BothHaveNeeded
both_have_needed r before after S moment final g =
    by_points r (λ m due H n. Needed r m → (X : Colour) → HasNeeded r (n.seat X).items) (record {
      sends = λ m n b due H p. p;
      fails = λ m n b due H on q only same p needed. p (λ on. not_early on);
      fails_late = λ m n b due H o only same p. p;
      reads = λ m n c t x H aw q stays p needed. p (line r c (line_kind t) x m aw needed);
      opens = λ m n c x H o q p needed. p (λ on. needed (ap is_shaken o));
      silent = λ m n c x H aw limited q stays p needed. by_silence r m n c x H
          (λ m due. Needed r m → (X : Colour) → HasNeeded r (n.seat X).items)
          (λ reason w only same p. p (λ on. not_early on)) (λ since p. p needed) stays p;
      output_ends = λ m n c H aw q only same p needed. p (λ on. not_early on);
      read_fails = λ m n c H aw q only same p needed. p (λ on. not_early on);
    }) before (Happens (Opened S moment) ∷ after) final (λ m due q g needed. at m due g needed) g (λ on. not_early on)
  where
    at : (m : Match) (due : List Block) → IsMatchFrom r m due (Happens (Opened S moment) ∷ after) final → Needed r m
        → (X : Colour) → HasNeeded r (m.seat X).items
    at m [] (phase, q) needed = needed (ap is_shaken phase)
    at m (b ∷ due) q needed = absurd q
