-- A match that a side lost by a line of its own (`whose_line`) ended with a line of that side: a line can end a match
-- so only for the side that sent it (`line_theirs`), and after the end only blocks are sent. By induction over the
-- acts.
use Rattle.std.proofs.Common.{◌≡◌, ℕ, Bool, true, false, List, [], ◌∷◌, ◌++◌, refl, ap, sym, ◌∙◌, Option, None, Some}
use Rattle.chess_base.specs.declared.man.Colour.{Colour}
use Rattle.cecp_engine.specs.EngineLines.{LineKind}
use Rattle.chess_match.specs.{laws.Laws.line_kind, laws.Laws.whose_line, Events.Line, Events.Opened, Events.Silent, Rules.Rules, declared.patience.Patience.Patience, declared.reason.MatchFault.MatchFault, declared.reason.MatchFault.TheVariants.Ended, declared.reason.MatchFault.TheVariants.Read, declared.reason.MatchFault.TheVariants.Write, declared.reason.Reason.Reason, declared.reason.Reason.TheVariants.Claimed, declared.reason.Reason.TheVariants.Decided, declared.reason.Reason.TheVariants.Faulted}
use Rattle.chess_match.specs.Acts.{Act, Block, IsMatchFrom, Happens, Sends, awaits_line, is_over}
use Rattle.chess_match.specs.Effects.{Match, Phase, Over, effect, line_row}
use Rattle.chess_match_laws.specs.OfActs.{LastLineIsTheirs, only_sends}
use Rattle.chess_match.proofs.{shared.LineCases.line_cases, shared.MatchCases.both_not, shared.MatchCases.on_when_read}
use Rattle.chess_match_laws.proofs.{Points.Stays, Points.by_points, Points.whole, Silences.by_silence}

-- if a match is over in this phase for what a side's line did, it is a line of the side `S`
abbrev Theirs : Patience → Colour → Phase → Type 0
Theirs patience S p = (reason : Reason) (c : Colour) → p ≡ Over reason → whose_line patience reason ≡ Some c → S ≡ c

-- an end for this reason, if the reason is the line of no side but S
stopped : (patience : Patience) (S : Colour) (reason : Reason)
    → ((c : Colour) → whose_line patience reason ≡ Some c → S ≡ c) → Theirs patience S (Over reason)
stopped patience S reason w other c e h =
    let same : reason ≡ other = cc in w c (ap (λ x. whose_line patience x) same ∙ h)

-- a line of S ends no match for what the other side's line did
line_theirs : (r : Rules) (S : Colour) (kind : LineKind) (n : ℕ) (m : Match) → awaits_line m.phase S ≡ true
    → Theirs r.patience S (line_row r m.phase kind n m).after.phase
line_theirs r S kind n m aw = line_cases r S kind n m (λ e. Theirs r.patience S e.after.phase) aw (λ since. record {
  handshake_stops = λ p reason k most w. stopped r.patience S reason w.1;
  handshake_counts = λ p d few. on m.phase (on_when_read m.phase S aw);
  handshake_next = λ p s d. on _ refl;
  handshake_last = λ p s d. on _ refl;
  setup_counts = λ p pong few. on m.phase (on_when_read m.phase S aw);
  setup_next = λ p s pong. on _ refl;
  setup_last = λ p s pong v d. on _ refl;
  setup_draws = λ p claim v d. stopped r.patience S (Claimed claim) (λ c h. cc);
  setup_decides = λ p v e. stopped r.patience S (Decided v) (λ c h. cc);
  stops = λ g reason w. stopped r.patience S reason w.1;
  counts = λ t none few. on m.phase (on_when_read m.phase S aw);
  offers = λ t none own. on m.phase (on_when_read m.phase S aw);
  plays = λ text move opened is p read room timely v d. on _ refl;
  draws = λ text move opened claim is p read room timely v d. stopped r.patience S (Claimed claim) (λ c h. cc);
  decides = λ text move opened v is p read room timely e. stopped r.patience S (Decided v) (λ c h. cc);
  passes = λ p none. on _ refl;
})
  where
    on : (p : Phase) → is_over p ≡ false → Theirs r.patience S p
    on p h reason c e w = both_not (is_over p) h (ap is_over e)

-- the acts end with a line of the side `S`, and then only blocks are sent
abbrev EndsWith : Colour → List Act → Type 0
EndsWith S H = (before : List Act) × (text : Option (List ℕ)) × (moment : ℕ) × (after : List Act)
    × (H ≡ before ++ Happens (Line S text moment) ∷ after) × (only_sends after ≡ true)

-- with an act in front the acts still end so
one_more : (S : Colour) (a : Act) (H : List Act) → EndsWith S H → EndsWith S (a ∷ H)
one_more S a H (before, text, moment, after, e, o) =
    (a ∷ before, text, moment, after, ap (λ (l : List Act). a ∷ l) e, o)

module _ (r : Rules) (reason : Reason) (S : Colour) (theirs : whose_line r.patience reason ≡ Some S) where
  -- a match that is on, and ends for this reason, ends with such a line
  abbrev Lasts : Match → List Act → Match → Type 0
  Lasts m H n = is_over m.phase ≡ false → n.phase ≡ Over reason → EndsWith S H

  -- a match that ended for what no line did
  no_line : {A : Type 0} (why : Reason) (n : Match) → whose_line r.patience why ≡ None → n.phase ≡ Over why
      → n.phase ≡ Over reason → A
  no_line why n w e o =
      let both : Over why ≡ Over reason = sym e ∙ o in
      let same : why ≡ reason = cc in
      let none : None ≡ Some S = sym w ∙ ap (λ x. whose_line r.patience x) same ∙ theirs in absurd cc

  -- no fault is a line's
  faulted : {A : Type 0} (c : Colour) (f : MatchFault) (n : Match) → n.phase ≡ Over (Faulted c f)
      → n.phase ≡ Over reason → A
  faulted c f n e o = no_line (Faulted c f) n refl e o

  -- a line of `c`: it ended the match, or a later one did
  line_last : (m n : Match) (c : Colour) (t : Option (List ℕ)) (k : ℕ) (H : List Act) → awaits_line m.phase c ≡ true
      → Stays (effect r m (Line c t k)).after H n → Lasts (effect r m (Line c t k)).after H n → n.phase ≡ Over reason
      → EndsWith S (Happens (Line c t k) ∷ H)
  line_last m n c t k H aw stays p o = at (is_over (effect r m (Line c t k)).after.phase) refl
    where
      at : (b : Bool) → is_over (effect r m (Line c t k)).after.phase ≡ b
          → EndsWith S (Happens (Line c t k) ∷ H)
      at true over =
          let (same, only) = stays over in
          let side : c ≡ S = line_theirs r c (line_kind t) k m aw reason S
          (ap (λ (x : Match). x.phase) (sym same) ∙ o) theirs in
          ([], t, k, H, ap (λ (x : Colour). Happens (Line x t k) ∷ H) side, only)
      at false on = one_more S (Happens (Line c t k)) H (p on o)

pub last_line_is_theirs : LastLineIsTheirs
last_line_is_theirs r reason S H final g over theirs =
    let (g', e) = whole r H final g in
    by_points r (λ m due H n. Lasts r reason S theirs m H n) (record {
      sends = λ m n b due K p on o. one_more S (Sends b) K (p on o);
      fails = λ m n b due K on q only same p on' o. faulted r reason S theirs b.to Write n
          (ap (λ (x : Match). x.phase) same) o;
      fails_late = λ m n b due K o only same p on. both_not (is_over m.phase) on o;
      reads = λ m n c t k K aw q stays p on o. line_last r reason S theirs m n c t k K aw stays p o;
      opens = λ m n c k K o q p on end. one_more S (Happens (Opened c k)) K (p refl end);
      silent = λ m n c k K aw limited q stays p on o. by_silence r m n c k K (λ m' due. Lasts r reason S theirs m' K n)
          (λ why w only same p. no_line r reason S theirs why n (w.1 limited) (ap (λ (x : Match). x.phase) same) o)
          (λ since p. one_more S (Happens (Silent c k)) K (p on o)) stays p;
      output_ends = λ m n c K aw q only same p on o. faulted r reason S theirs c Ended n
          (ap (λ (x : Match). x.phase) same) o;
      read_fails = λ m n c K aw q only same p on o. faulted r reason S theirs c Read n
          (ap (λ (x : Match). x.phase) same) o;
    }) H [] final (λ m due q g on o. at_end m due g on) g' refl
    (ap (λ (x : Match). x.phase) e ∙ over)
  where
    at_end : {A : Type 0} (m : Match) (due : List Block) → IsMatchFrom r m due [] final → is_over m.phase ≡ false → A
    at_end m [] (o, e) on = both_not (is_over m.phase) on o
    at_end m (b ∷ due) g on = absurd g
