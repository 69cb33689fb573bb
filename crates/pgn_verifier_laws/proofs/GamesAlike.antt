-- A game without a fault that is read in the text `old` is read in `new`, if each token that `old` has in the game's
-- bytes is there in `new` too (Fits): token by token, by induction on the split, the reader goes on alike in both, and
-- the game's end comes at the same distance from the beginning (found).
use Rattle.std.proofs.Common.{◌≡◌, ℕ, ◌+◌, ◌-◌, ◌<◌, ◌≤◌, Bool, List, ◌∷◌, ◌++◌, length, drop, Some, Ok, refl, sym, ap, subst, ◌∙◌, length-append, arith, is_some, length-drop}
use Rattle.chess_game.specs.Game.{State, verdict_now}
use Rattle.chess_pgn.specs.{GameRead.GameRead, GameRead.declared_after, laws.WordKinds.word_kind, declared.read.PgnEnd.PgnEnd, declared.read.PgnFaultKind.TheVariants.NoResult}
use Rattle.pgn_tokens.specs.LastTags.{may_precede_tags}
use Rattle.pgn_tokens.specs.shared.Kinds.{IsSplitByKinds, IsOf, IsLongest, Kind, token_of, Blank, Line, Comment, Nag, Variation, Tag_pair, Asterisk, Symbol, ended, token, stopped}
use Rattle.pgn_tokens.specs.Tokens.{Token, Word, begins_line, tokens_from}
use Rattle.chess_pgn.specs.laws.TokenByToken.{SoFar, word_step, step, read_rest_with, game_of}
use Rattle.pgn_tokens.proofs.shared.Tokens.{read_kinds}
use Rattle.pgn_verifier_laws.proofs.PartsAlike.{over, OnOrFails, on, goes_on, Does, ends_game, no_end, does, tags_alike, HaveSameTags, skip_more, tag_more, word_more, word_ends, none_left, faults_stop}

-- the text has this token at this place, and then some rest
pub record Fits (text : List ℕ) (place : ℕ) (kind : Kind) (front : List ℕ) : Type 0 where
  pub rest' : List ℕ
  pub is : drop place text ≡ front ++ rest'
  pub long : IsLongest (IsOf (begins_line text place) kind) front rest'

-- the tokens of the text `old` that are after `a` and end within the `size` bytes from there on, are in `new` after `b`
module _ (draws : Bool) (limit : ℕ) (old new : List ℕ) (a b size : ℕ)
    (fits : (at : ℕ) (kind : Kind) (front rest : List ℕ) → drop (a + at) old ≡ front ++ rest
    → IsLongest (IsOf (begins_line old (a + at)) kind) front rest → at + length front ≤ size
    → Fits new (b + at) kind front)
  where
    next_place : (at n : ℕ) → b + (at + n) ≡ b + at + n
    next_place at n = omega arith

    -- a game that ends within these bytes
    module _ (s : State) (end : PgnEnd) (near : (m : ℕ) → m ≤ length old → m ≡ end.offset → m ≤ a + size) where
      -- what was found in the second text
      pub record Found (at : ℕ) (g : SoFar) (ts : List (ℕ × Token)) : Type 0 where
        pub within : at ≤ size
        pub own : List (ℕ × Token)
        pub split : IsSplitByKinds new (b + at) own
        pub is : game_of draws limit (length new) g own ≡ over s (record end { offset = end.offset - a + b })
        pub tags : HaveSameTags own ts
        pub bytes : a + at < end.offset
        pub inside : end.offset ≤ a + size

      abbrev Again : ℕ → List (ℕ × Token) → Type 0
      Again next tokens = (g : SoFar) → game_of draws limit (length old) g tokens ≡ over s end
          → Found next g tokens

      -- a token after which reading goes on
      further : (at x : ℕ) (kind : Kind) (front rest : List ℕ) (tokens : List (ℕ × Token)) (g : SoFar)
          → drop (a + at) old ≡ front ++ rest
          → IsLongest (IsOf (begins_line old (a + at)) kind) front rest
          → ((m : ℕ) → OnOrFails (step draws limit (length old) g x (token_of kind front (length rest)))
          (step draws limit (length new) g (length new - (b + at)) (token_of kind front m)))
          → ((m : ℕ) (us : List (ℕ × Token)) → HaveSameTags us tokens
          → HaveSameTags ((length new - (b + at), token_of kind front m) ∷ us)
          ((x, token_of kind front (length rest)) ∷ tokens))
          → Again (at + length front) tokens
          → game_of draws limit (length old) g ((x, token_of kind front (length rest)) ∷ tokens)
          ≡ over s end
          → Found at g ((x, token_of kind front (length rest)) ∷ tokens)
      further at x kind front rest tokens g e long steps tags again h =
          let later : SoFar → GameRead = λ k. game_of draws limit (length old) k tokens in
          let one = goes_on (step draws limit (length old) g x (token_of kind front (length rest)))
          (step draws limit (length new) g (length new - (b + at)) (token_of kind front 0)) later s end (steps 0) h in
          let near = (again one.g one.rest).within in
          let fit = fits at kind front rest e long near in
          let left : ℕ = length fit.rest' in
          let here = goes_on (step draws limit (length old) g x (token_of kind front (length rest)))
          (step draws limit (length new) g (length new - (b + at)) (token_of kind front left)) later s end
          (steps left) h in
          let found = again here.g here.rest in
          record {
            within = omega (arith, near);
            own = (length new - (b + at), token_of kind front left) ∷ found.own;
            split = token kind front fit.rest' {tokens = found.own} fit.is fit.long
                (subst (λ p. IsSplitByKinds new p found.own) (next_place at (length front)) found.split);
            is = ap (λ t. read_rest_with t (λ k. game_of draws limit (length new) k found.own)) here.second ∙ found.is;
            tags = tags left found.own found.tags;
            bytes = omega (arith, found.bytes);
            inside = found.inside;
          }

      same_end : (a b : PgnEnd) (u v : State) → over u a ≡ over v b → (u ≡ v) × (a ≡ b)
      same_end a b u v h =
          let ends : Ok (Some a) ≡ Ok (Some b) = ap (λ (r : GameRead). r.answer) h in
          (ap (λ (r : GameRead). r.state) h, cc)

      -- a word
      word : (at x : ℕ) (kind : Kind) (front rest : List ℕ) (tokens : List (ℕ × Token)) (g : SoFar)
          → ((m : ℕ) → token_of kind front m ≡ Word front)
          → x ≡ length old - (a + at)
          → 0 < length front → drop (a + at) old ≡ front ++ rest
          → IsLongest (IsOf (begins_line old (a + at)) kind) front rest
          → Again (at + length front) tokens
          → game_of draws limit (length old) g ((x, Word front) ∷ tokens) ≡ over s end
          → Found at g ((x, Word front) ∷ tokens)
      word at x kind front rest tokens g is_word place some e long again h = by_step (does draws limit front)
        where
          low : a + at + length front ≤ length old
          low = omega (
            arith,
            some,
            ap length e,
            length-append front rest,
            length-drop (a + at) old,
          )

          total : ℕ
          total = length old

          passes : ((m n : ℕ) → OnOrFails (word_step draws limit g m front (word_kind front))
              (word_step draws limit g n front (word_kind front))) → Found at g ((x, Word front) ∷ tokens)
          passes alike =
              subst (λ t. Found at g ((x, t) ∷ tokens)) (is_word (length rest))
              (further at x kind front rest tokens g e long
              (λ m. subst (λ t. OnOrFails (step draws limit total g x t)
              (step draws limit (length new) g (length new - (b + at))
              (token_of kind front m)))
              (sym (is_word (length rest)))
              (subst (λ t. OnOrFails (step draws limit total g x (Word front)) (step draws limit (length new) g
              (length new - (b + at)) t))
              (sym (is_word m)) (alike (total - x) (length new - (length new - (b + at))))))
              (λ m us same.
              subst (λ t. HaveSameTags ((length new - (b + at), token_of kind front m) ∷ us) ((x, t) ∷ tokens))
              (sym (is_word (length rest)))
              (subst (λ t. HaveSameTags ((length new - (b + at), t) ∷ us) ((x, Word front) ∷ tokens)) (sym (is_word m))
              (word_more x (length new - (b + at)) front us tokens same)))
              again
              (subst (λ t. game_of draws limit total g ((x, t) ∷ tokens) ≡ over s end) (sym (is_word (length rest))) h))

          by_step : Does front (λ k m. word_step draws limit k m front (word_kind front))
              (may_precede_tags (Word front))
              → Found at g ((x, Word front) ∷ tokens)
          by_step (no_end alike) = passes (alike g)
          by_step (ends_game o step_is no_tag) =
              let later : SoFar → GameRead = λ k. game_of draws limit total k tokens in
              let whole = sym (ap (λ t. read_rest_with t later) (step_is g (total - x))) ∙ h in
              let same = same_end _ end _ s whole in
              let offset : total - x + length front ≡ end.offset = ap (λ (p : PgnEnd). p.offset) same.1 in
              let ending : a + at + length front ≡ end.offset = omega (arith, offset, place, low) in
              let inside : a + at + length front ≤ a + size = near (a + at + length front) low ending in
              let fit = fits at kind front rest e long (omega (arith, inside)) in
              let left : ℕ = length fit.rest' in
              let mine : List (ℕ × Token) = tokens_from new (b + at + length front) in
              let small : b + at + length front ≤ length new = omega (
                arith,
                some,
                ap length fit.is,
                length-append front fit.rest',
                length-drop (b + at) new,
              ) in
              let moved : length new - (length new - (b + at)) + length front ≡ end.offset - a + b =
              omega (arith, small, ending) in
              record {
                within = omega (arith, inside);
                own = (length new - (b + at), Word front) ∷ mine;
                split = subst (λ t. IsSplitByKinds new (b + at) ((length new - (b + at), t) ∷ mine)) (is_word left)
                    (token kind front fit.rest' fit.is fit.long (read_kinds new (b + at + length front)));
                is = ap (λ t. read_rest_with t (λ k. game_of draws limit (length new) k mine))
                    (step_is g (length new - (length new - (b + at))))
                    ∙ ap (λ m. over (record g.state { declared = declared_after (is_some (verdict_now g.state)) o })
                    (record { outcome = o; termination = g.termination; offset = m })) moved
                    ∙ ap (λ u. over u (record {
                      outcome = o;
                      termination = g.termination;
                      offset = end.offset - a + b;
                    })) same.0
                    ∙ ap (λ (p : PgnEnd). over s (record p { offset = end.offset - a + b })) same.1;
                tags = word_ends (length new - (b + at)) x front mine tokens no_tag;
                bytes = omega (arith, ending, some);
                inside = omega (arith, ending, inside);
              }

      by_kind : (at x : ℕ) (kind : Kind) (front rest : List ℕ) (tokens : List (ℕ × Token)) (g : SoFar)
          → x ≡ length old - (a + at)
          → drop (a + at) old ≡ front ++ rest
          → IsLongest (IsOf (begins_line old (a + at)) kind) front rest
          → Again (at + length front) tokens
          → game_of draws limit (length old) g ((x, token_of kind front (length rest)) ∷ tokens)
          ≡ over s end
          → Found at g ((x, token_of kind front (length rest)) ∷ tokens)
      by_kind at x Blank front rest tokens g place e long again h =
          further at x Blank front rest tokens g e long (λ m. on g)
          (λ m us same. skip_more x (length new - (b + at)) us tokens same) again h
      by_kind at x Line front rest tokens g place e long again h =
          further at x Line front rest tokens g e long (λ m. on g)
          (λ m us same. skip_more x (length new - (b + at)) us tokens same) again h
      by_kind at x Comment front rest tokens g place e long again h =
          further at x Comment front rest tokens g e long (λ m. on g)
          (λ m us same. skip_more x (length new - (b + at)) us tokens same) again h
      by_kind at x Nag front rest tokens g place e long again h =
          further at x Nag front rest tokens g e long (λ m. on g)
          (λ m us same. skip_more x (length new - (b + at)) us tokens same) again h
      by_kind at x Variation front rest tokens g place e long again h =
          further at x Variation front rest tokens g e long (λ m. on g)
          (λ m us same. skip_more x (length new - (b + at)) us tokens same) again h
      by_kind at x (Tag_pair name string closing) front rest tokens g place e long again h =
          further at x (Tag_pair name string closing) front rest tokens g e long
          (λ m. tags_alike draws limit (length old) (length new) x (length new - (b + at)) g name string
          (length (string ++ closing) + length rest) (length (string ++ closing) + m))
          (λ m us same. tag_more x (length new - (b + at)) (length (string ++ closing) + length rest)
          (length (string ++ closing) + m) name string us tokens same) again h
      by_kind at x Asterisk front rest tokens g place e long again h =
          word at x Asterisk front rest tokens g (λ m. refl) place (omega (arith, ap length long.is)) e long again h
      by_kind at x Symbol front rest tokens g place e long again h =
          word at x Symbol front rest tokens g (λ m. refl) place long.is.0 e long again h

      pub found : {place : ℕ} {ts : List (ℕ × Token)} → IsSplitByKinds old place ts → (at : ℕ)
          → place ≡ a + at → (g : SoFar) → game_of draws limit (length old) g ts
          ≡ over s end
          → Found at g ts
      found (ended e) at is g h = absurd (none_left end g.is_met
          (record { kind = NoResult; offset = length old }) (ap (λ (r : GameRead). r.answer) h))
      found (token {at = place} kind front rest {tokens} e long more) at is g h =
          by_kind at (length old - place) kind front rest tokens g
          (ap (λ p. length old - p) is)
          (subst (λ p. drop p old ≡ front ++ rest) is e)
          (subst (λ p. IsLongest (IsOf (begins_line old p) kind) front rest) is long)
          (λ k same. found more (at + length front) (omega (arith, is)) k same) h
      found (stopped {at = place} {fault} none k) at is g h =
          absurd (faults_stop draws limit (length old) (Some end)
          (drop place old) (length old - place) g fault k
          (ap (λ (r : GameRead). r.answer) h))
