-- No notes keep the rules on links where paths break what these ask of all notes.
use Rattle.std.proofs.Common.{ℕ, zero, suc, ◌+◌, ◌≡◌, ◌<◌, ◌⊎◌, Bool, true, false, cond, List, [], ◌∷◌, ◌++◌}
use Rattle.std.proofs.Common.{length, Option, Some, None, refl, sym, ap, ◌∙◌, inl, inr, subst, arith}
use Rattle.std.proofs.lemmas.Bool.{cases_Bool}
use Rattle.ws_isa.specs.declared.instr.Op.{Op}
use Rattle.ws_isa.specs.declared.instr.Link.TheVariants.{Is}
use Rattle.ws_isa.specs.declared.instr.Note.{Note}
use Rattle.ws_isa.specs.Image.{Instr, Exit, Block, Image, no_instr, no_block, flat, first_of, instr_at}
use Rattle.ws_isa.specs.Image.{block_at, first_number, is_memory, note_of, leave_to, is_stop, stops, target}
use Rattle.ws_isa.specs.Image.{is_first, IsBlock}
use Rattle.ws_isa.specs.Sound.{InWave, first, turn, edge, last_op, seq, LinkRules}
use Rattle.wave_link.specs.Fit.{FitForNotes}
use Rattle.wave_link.specs.Grown.{annotated}
use Rattle.wave_link.proofs.Parted.Edges.{count_kept as draft_count, target_kept as draft_target}
use Rattle.wave_link.proofs.Parted.Edges.{stops_kept as draft_stops, first_kept as draft_first}
use Rattle.wave_link.proofs.Parted.Edges.{wave_kept as draft_wave}
use Rattle.wave_link.proofs.Vain.VainWithout.{count_kept, target_kept, stops_kept, first_kept, wave_kept}
use Rattle.wave_link.proofs.Vain.VainDraft.{none_in_vain}
use Rattle.wave_link.specs.Vain.{without, FollowsIn, EndsIn, OtherNext, OtherBefore, other, none, Unlinkable}
use Rattle.wave_link.specs.Vain.{no_operation, first_and_not, last_and_not, neighbours}
use Rattle.wave_link.specs.Renoted.{renoted_instrs, renoted_blocks, renoted, NeverLinked}
use Rattle.ws_words.specs.Items.{nth, or_else}

-- images with the same paths
pub record SamePaths (image new : Image) : Type 0 where
  pub blocks : (b : ℕ) → IsBlock image b → IsBlock new b
  pub waves : (b : ℕ) → (block_at new b).wave ≡ (block_at image b).wave
  pub stops_are : (b : ℕ) → stops new b ≡ stops image b
  pub targets : (b r : ℕ) → target new b r ≡ target image b r
  pub firsts : (b : ℕ) → is_first new b ≡ is_first image b
  pub numbers : (b : ℕ) → first_number new b ≡ first_number image b
  pub memory : (k : ℕ) → is_memory new k ≡ is_memory image k

module _ (image new : Image) (same : SamePaths image new) where
  path : (b k : ℕ) (done : List ℕ) → InWave image b k done → InWave new b k done
  path b k done (first h f) = subst (λ (i : ℕ). InWave new b i []) (same.numbers b)
      (first (same.blocks b h) (same.firsts b ∙ f))
  path b k done (turn {b = c} {k = i} {done = d} p w) = turn (path c i d p)
      (subst (λ (j : ℕ). i < j) (sym (same.numbers (suc c))) w)
  path b k done (edge {b = c} {k = i} {done = d} p e s r f) =
      let t : target new c r ≡ target image c r = same.targets c r in
      let g : InWave new (target new c r) (first_number new (target new c r)) d =
      edge (path c i d p) (e ∙ sym (same.numbers (suc c))) (same.stops_are c ∙ s) r
      (same.firsts (target new c r) ∙ (ap (is_first image) t ∙ f)) in
      subst (λ (i : ℕ). InWave new (target image c r) i d) (same.numbers (target image c r))
      (subst (λ (j : ℕ). InWave new j (first_number new j) d) t g)

  same_last : (done : List ℕ) → last_op new done ≡ last_op image done
  same_last [] = refl
  same_last (k ∷ ks) = grind (arith, same.memory, same_last ks)

  follows : (w : ℕ) (last : Option ℕ) (k : ℕ) → FollowsIn image w last k → FollowsIn new w last k
  follows w last k f = record {
    follows = grind (arith, path, f.follows.block, f.follows.done, same.numbers, same.memory, same_last);
    wave_is = same.waves f.follows.block ∙ f.wave_is;
  }

  ends : (w : ℕ) (last : Option ℕ) → EndsIn image w last → EndsIn new w last
  ends w last e = record {
    ends = grind (arith, path, same_last);
    wave_is = same.waves e.ends.block ∙ e.wave_is;
  }

  -- the last operation of a path comes on it too
  pub record Came (w j : ℕ) : Type 0 where
    pub last : Option ℕ
    pub follows : FollowsIn image w last j

  module _ (targets : (b r : ℕ) → IsBlock image b → stops image b ≡ false → IsBlock image (target image b r))
      (stays : (b r : ℕ) → IsBlock image b → stops image b ≡ false → is_first image (target image b r) ≡ false
      → (block_at image (target image b r)).wave ≡ (block_at image b).wave) where
    block_of : (b k : ℕ) (done : List ℕ) → InWave image b k done → IsBlock image b
    block_of b k done (first h f) = h
    block_of b k done (turn {b = c} {k = i} {done = d} p w) = block_of c i d p
    block_of b k done (edge {b = c} {k = i} {done = d} p e s r f) = targets c r (block_of c i d p) s

    came : (b k : ℕ) (done : List ℕ) (j : ℕ) → InWave image b k done → last_op image done ≡ Some j
        → Came (block_at image b).wave j
    came b k done j (first h f) e = absurd (cc)
    came b k done j (turn {b = c} {k = i} {done = d} p w) e = go (cases_Bool (is_memory image i))
        (λ q. came c i d j p q)
      where
        go : (is_memory image i ≡ true) ⊎ (is_memory image i ≡ false)
            → (last_op image d ≡ Some j → Came (block_at image c).wave j) → Came (block_at image c).wave j
        go (inr m) rec = grind arith
        go (inl m) rec =
            let q : Some i ≡ Some j = sym (ap (λ (v : Bool). cond v (Some i) (last_op image d)) m) ∙ e in
            subst (Came (block_at image c).wave) (one i j q)
            (record {
              last = last_op image d;
              follows =
                  record {
                    follows = grind (arith, path);
                    wave_is = refl;
                  };
            })
          where
            one : (i j : ℕ) → Some i ≡ Some j → i ≡ j
            one i j q = cc
    came b k done j (edge {b = c} {k = i} {done = d} p e s r f) q = grind (arith, block_of, came c i d j p q)

    came_before : (w j k : ℕ) → FollowsIn image w (Some j) k → Came w j
    came_before w j k f = grind (arith, came)

    -- so the rules on links don't hold

    module _ (rules : LinkRules new) where
      no_next : (w j k : ℕ) → FollowsIn image w (Some j) k → (note_of new j).succ ≡ Is (seq new k)
          → OtherNext image w j k → ⊥
      no_next w j k f e (none g) = rules.succ_goes_on j (seq new k) e (ends w (Some j) g).ends
      no_next w j k f e (other m g d) =
          let f' : FollowsIn new w (Some j) k = follows w (Some j) k f in
          let g' : FollowsIn new w (Some j) m = follows w (Some j) m g in
          d (rules.differ m k (Some j) (Some j) g'.follows f'.follows (g'.wave_is ∙ sym f'.wave_is)
          (rules.succ_is j m (seq new k) e g'.follows))

      no_before : (w j k : ℕ) → FollowsIn image w (Some j) k → (note_of new k).pred ≡ Is (seq new j)
          → OtherBefore image w j k → ⊥
      no_before w j k f e (none g) = rules.pred_is_some k (seq new j) e (follows w None k g).follows
      no_before w j k f e (other i g d) =
          let a : Came w i = came_before w i k g in
          let b : Came w j = came_before w j k f in
          let a' : FollowsIn new w a.last i = follows w a.last i a.follows in
          let b' : FollowsIn new w b.last j = follows w b.last j b.follows in
          d (rules.differ i j a.last b.last a'.follows b'.follows (a'.wave_is ∙ sym b'.wave_is)
          (rules.pred_is i k (seq new j) e (follows w (Some i) k g).follows))

      pub no_links : (w : ℕ) → Unlinkable image w → ⊥
      no_links w (no_operation e) = rules.some_op (ends w None e).ends
      no_links w (first_and_not j k f g) =
          rules.pred_none j k (rules.first_pred k (follows w None k f).follows)
          (follows w (Some j) k g).follows
      no_links w (last_and_not j k e g) = rules.succ_ends j k (rules.last_succ j (ends w (Some j) e).ends)
          (follows w (Some j) k g).follows
      no_links w (neighbours j k f p q) = elim (rules.linked j k (follows w (Some j) k f).follows)
          [ inl e ↦ no_next w j k f e p | inr e ↦ no_before w j k f e q ]

-- the same image with other notes

renoted_length : (notes : ℕ → Option Note) (k : ℕ) (is : List Instr) → length (renoted_instrs notes k is)
    ≡ length is
renoted_length notes k [] = refl
renoted_length notes k (i ∷ is) = ap suc (renoted_length notes (suc k) is)

renoted_count : (notes : ℕ → Option Note) (k : ℕ) (bs : List Block) → length (renoted_blocks notes k bs)
    ≡ length bs
renoted_count notes k [] = refl
renoted_count notes k (b ∷ bs) = ap suc (renoted_count notes (k + length b.instrs) bs)

renoted_wave : (notes : ℕ → Option Note) (k : ℕ) (bs : List Block) (n : ℕ)
    → (or_else (nth (renoted_blocks notes k bs) n) no_block).wave ≡ (or_else (nth bs n) no_block).wave
renoted_wave notes k (b ∷ bs) (suc n) = renoted_wave notes (k + length b.instrs) bs n
renoted_wave notes k bs n = grind arith

renoted_exit : (notes : ℕ → Option Note) (k : ℕ) (bs : List Block) (n : ℕ)
    → (or_else (nth (renoted_blocks notes k bs) n) no_block).exit ≡ (or_else (nth bs n) no_block).exit
renoted_exit notes k (b ∷ bs) (suc n) = renoted_exit notes (k + length b.instrs) bs n
renoted_exit notes k bs n = grind arith

renoted_first : (notes : ℕ → Option Note) (k : ℕ) (bs : List Block) (b : ℕ)
    → first_of (renoted_blocks notes k bs) b ≡ first_of bs b
renoted_first notes k (x ∷ xs) (suc b) =
    grind (arith, renoted_length, renoted_first notes (k + length x.instrs) xs b)
renoted_first notes k bs b = grind arith

op_in : List Instr → ℕ → Op
op_in is n = (or_else (nth is n) no_instr).op

renoted_op : (notes : ℕ → Option Note) (k : ℕ) (is : List Instr) (n : ℕ)
    → op_in (renoted_instrs notes k is) n ≡ op_in is n
unfolding op_in
renoted_op notes k (i ∷ is) (suc n) = renoted_op notes (suc k) is n
renoted_op notes k is n = grind arith

joined_op : (xs ys us vs : List Instr) → length xs ≡ length us → ((n : ℕ) → op_in xs n ≡ op_in us n)
    → ((n : ℕ) → op_in ys n ≡ op_in vs n) → (n : ℕ) → op_in (xs ++ ys) n ≡ op_in (us ++ vs) n
unfolding op_in
joined_op [] ys [] vs l f g n = g n
joined_op [] ys (u ∷ us) vs l f g n = absurd (omega arith)
joined_op (x ∷ xs) ys [] vs l f g n = absurd (omega arith)
joined_op (x ∷ xs) ys (u ∷ us) vs l f g zero = f zero
joined_op (x ∷ xs) ys (u ∷ us) vs l f g (suc n) = joined_op xs ys us vs (omega arith) (λ m. f (suc m)) g n

renoted_flat : (notes : ℕ → Option Note) (k : ℕ) (bs : List Block) (n : ℕ)
    → op_in (flat (renoted_blocks notes k bs)) n ≡ op_in (flat bs) n
renoted_flat notes k [] n = refl
renoted_flat notes k (b ∷ bs) n =
    grind (arith, joined_op, renoted_length, renoted_op, renoted_flat notes (k + length b.instrs) bs)

module _ (image : Image) (notes : ℕ → Option Note) where
  abbrev new : Image
  new = renoted image notes

  wave_is : (b : ℕ) → (block_at new b).wave ≡ (block_at image b).wave
  unfolding renoted block_at
  wave_is b = grind (arith, renoted_wave)

  exit_is : (b : ℕ) → (block_at new b).exit ≡ (block_at image b).exit
  unfolding renoted block_at
  exit_is b = grind (arith, renoted_exit)

  stop_is : (b : ℕ) → stops new b ≡ stops image b
  unfolding stops
  stop_is b = ap is_stop (exit_is b)

  target_is : (b r : ℕ) → target new b r ≡ target image b r
  unfolding target
  target_is b r = ap (λ (e : Exit). leave_to e r) (exit_is b)

  first_is : (b : ℕ) → is_first new b ≡ is_first image b
  unfolding is_first
  first_is b = grind (arith, wave_is)

  number_is : (b : ℕ) → first_number new b ≡ first_number image b
  unfolding renoted first_number
  number_is b = grind (arith, renoted_first)

  block_is : (b : ℕ) → IsBlock image b → IsBlock new b
  unfolding renoted
  block_is b h = grind (arith, renoted_count)

  memory_is : (k : ℕ) → is_memory new k ≡ is_memory image k
  unfolding renoted is_memory instr_at op_in
  memory_is k = grind (arith, renoted_flat)

  pub same_paths : SamePaths image new
  same_paths = record {
    blocks = block_is;
    waves = wave_is;
    stops_are = stop_is;
    targets = target_is;
    firsts = first_is;
    numbers = number_is;
    memory = memory_is;
  }

-- without the no-op of a block

module _ (draft : Image) (open_to : FitForNotes draft) (x : ℕ) where
  abbrev image : Image
  image = without (annotated draft) x

  in_draft : (b : ℕ) → IsBlock image b → IsBlock draft b
  in_draft b h = grind (arith, count_kept, draft_count)

  in_image : (b : ℕ) → IsBlock draft b → IsBlock image b
  in_image b h = grind (arith, count_kept, draft_count)

  leads : (b r : ℕ) → target image b r ≡ target draft b r
  leads b r = target_kept (annotated draft) x b r ∙ draft_target draft b r

  stop_at : (b : ℕ) → stops image b ≡ stops draft b
  stop_at b = stops_kept (annotated draft) x b ∙ draft_stops draft b

  first_at : (b : ℕ) → is_first image b ≡ is_first draft b
  first_at b = first_kept (annotated draft) x b ∙ draft_first draft b

  wave_at : (b : ℕ) → (block_at image b).wave ≡ (block_at draft b).wave
  wave_at b = wave_kept (annotated draft) x b ∙ draft_wave draft b

  targets : (b r : ℕ) → IsBlock image b → stops image b ≡ false → IsBlock image (target image b r)
  targets b r h s =
      in_image (target image b r) (subst (IsBlock draft) (sym (leads b r))
      ((open_to.walkable.shape.blocks b (in_draft b h)).edges.there r (sym (stop_at b) ∙ s)))

  stays : (b r : ℕ) → IsBlock image b → stops image b ≡ false → is_first image (target image b r) ≡ false
      → (block_at image (target image b r)).wave ≡ (block_at image b).wave
  stays b r h s f =
      let g : is_first draft (target draft b r) ≡ false = grind (arith, leads, first_at) in
      wave_at (target image b r) ∙ (ap (λ (c : ℕ). (block_at draft c).wave) (leads b r)
      ∙ (((open_to.walkable.shape.blocks b (in_draft b h)).edges.later r (sym (stop_at b) ∙ s) g).1
      ∙ sym (wave_at b)))

  pub no_notes : (w : ℕ) (notes : ℕ → Option Note) → Unlinkable image w → LinkRules (renoted image notes) → ⊥
  no_notes w notes u rules = no_links image (renoted image notes) (same_paths image notes) targets stays rules
      w u

pub never_linked : (draft : Image) → FitForNotes draft → NeverLinked draft (annotated draft)
never_linked draft open_to b n notes h d rules = no_notes draft open_to n (block_at draft b).wave notes
    (none_in_vain draft open_to b n h d).needed rules
