-- The walk of an image shows the run of the program that its graph shows.
use Rattle.std.proofs.Common.{◌≡◌, ℕ, zero, suc, ◌+◌, ◌-◌, ◌*◌, ◌<◌, ◌≤◌, true, List, [], ◌++◌, length, map}
use Rattle.std.proofs.Common.{sym, ap, ◌∙◌, subst, inl, inr, arith}
use Rattle.std.proofs.lemmas.Bool.{cond-true, cases_lt}
use Rattle.std.proofs.lemmas.Nat.{mul-le}
use Rattle.ws_words.specs.Outside.{Act, Outside, World}
use Rattle.src_ast.specs.Syntax.{Part}
use Rattle.src_ast.specs.Meaning.{Passes, Flows}
use Rattle.src_ast.specs.Runs.{outside_of, acts_in}
use Rattle.src_ast.specs.Turns.{CallEnd}
use Rattle.ws_isa.specs.Image.{Array, Image}
use Rattle.ws_isa.specs.Shown as image_shown
use Rattle.ws_isa.specs.Walk.{Pos, pos, step, mem, has_ended, CostAtMost}
use Rattle.ws_isa.specs.Walk.{walk as instances}
use Rattle.ws_isa.proofs.GoesOn.{acts_grow}
use Rattle.ws_isa.proofs.Ending.{walk_up, over_is_whole}
use Rattle.cfg_core.specs.Graph.{Graph, GraphArray}
use Rattle.cfg_core.specs.Rules.{IsGraph}
use Rattle.cfg_core.specs.Walk.{Config, At, Over, walk, opening}
use Rattle.cfg_core.specs.Shown.{shown_acts, IsInside, AllInside}
use Rattle.wave_gen.specs.Words.{array_of, arrays_of}
use Rattle.wave_gen.specs.Keeps.{KeepsWalk, EndlessWith}
use Rattle.wave_link.specs.Passed.{WalksFor}
use Rattle.wave_build.specs.Compiled.{in_graph, shown, ShowsOutside, WalksAsRun}
use Rattle.ws_words.specs.Past.{ActsBegin}
use Rattle.ws_words.proofs.Acts.{begins_all, begins_then}
use Rattle.wave_build.proofs.CompilingShown.{same_arrays, same_cells, shown_both, front_all}
use Rattle.wave_build.specs.Prepared.{Shown, ShowsProgram}
use Rattle.wave_build.proofs.CompilingGraphs.{Came, stands, over, at_came, WalksAnswer, Reaches, reaches}

-- an image's walk, further on
module _ (image : Image) (world : World) where
  unfolding_over : (p : Pos) → p.over ≡ true → step image p ≡ p
  unfolding step
  unfolding_over p e = cond-true p.over _ _ e

  pos_stays : (t d : ℕ) → has_ended image world t ≡ true → pos image world (d + t) ≡ pos image world t
  unfolding pos has_ended
  pos_stays t zero e = let z : 0 + t ≡ t = omega arith in ap (pos image world) z
  pos_stays t (suc d) e =
      let z : suc d + t ≡ suc (d + t) = omega arith in
      ap (pos image world) z ∙ ap (step image) (pos_stays t d e) ∙ unfolding_over (pos image world t) e

  mem_later : (t u : ℕ) → t ≤ u → has_ended image world t ≡ true → mem image world u ≡ mem image world t
  unfolding mem
  mem_later t u l e =
      let z : u ≡ (u - t) + t = omega (arith, l) in
      ap (λ n. (pos image world n).memory) z ∙ ap (λ (p : Pos). p.memory) (pos_stays t (u - t) e)

  pub same_end : (t u : ℕ) → has_ended image world t ≡ true → has_ended image world u ≡ true
      → mem image world t ≡ mem image world u
  same_end t u e f = elim (cases_lt t u) [
    | inl l ↦ sym (mem_later t u (omega (arith, l)) e)
    | inr l ↦ mem_later u t (omega (arith, l)) f
  ]

  pub front_at : (t u : ℕ) → t ≤ u → ActsBegin (mem image world t).acts (mem image world u).acts
  front_at t u l =
      let z : (u - t) + t ≡ u = omega (arith, l) in
      subst (λ n. ActsBegin (mem image world t).acts (mem image world n).acts) z
      (acts_grow image world (u - t) t)

  -- what the walk does is the first of what it has done at its end
  pub front_end : (t u : ℕ) → has_ended image world u ≡ true → ActsBegin (mem image world t).acts
      (mem image world u).acts
  front_end t u e = elim (cases_lt t u) [
    | inl l ↦ front_at t u (omega (arith, l))
    | inr l ↦ subst (λ (o : Outside). ActsBegin o.acts (mem image world u).acts)
        (sym (mem_later u t (omega (arith, l)) e)) (begins_all (mem image world u).acts)
  ]

  pub more_later : (t u : ℕ) → length (instances image world t) < length (instances image world u) → t ≤ u
  more_later t u l = elim (cases_lt u t) [
    | inl k ↦ (let z : (t - u) + u ≡ t = omega (arith, k) in
        let a : length (instances image world u) ≤ length (instances image world ((t - u) + u)) =
        walk_up image world (t - u) u in
        let b : length (instances image world u) ≤ length (instances image world t) =
        subst (λ n. length (instances image world u) ≤ length (instances image world n)) z a in
        omega (arith, b, l))
    | inr k ↦ omega (arith, k)
  ]

  pub whole_cost : (t : ℕ) → has_ended image world t ≡ true
      → CostAtMost image world (length (instances image world t))
  unfolding has_ended
  whole_cost t e = over_is_whole image world t e

-- so many instances, each for so many blocks
more_instances : (blocks k n : ℕ) → blocks * suc k < blocks * suc n → k < n
more_instances blocks k n h = elim (cases_lt k n) [
  | inl l ↦ l
  | inr l ↦ (let e : blocks * suc n ≤ blocks * suc k = mul-le blocks (suc n) blocks (suc k) (omega arith)
      (omega (arith, l)) in omega (arith, h, e))
]

module _ (parts : List Part) (g : Graph) (draft image : Image) (world : World) (answers : WalksAnswer)
    (rules : IsGraph g) (program : ShowsProgram parts g)
    (keeps : (turns : ℕ) → KeepsWalk g draft world turns) (endless : EndlessWith g draft world)
    (follow : WalksFor draft image world)
    (drawn : draft.arrays ≡ arrays_of g) (kept : image.arrays ≡ draft.arrays) where
  arrays : image.arrays ≡ map array_of g.arrays
  arrays = kept ∙ drawn

  back : map in_graph image.arrays ≡ g.arrays
  back = ap (λ (xs : List Array). map in_graph xs) arrays ∙ same_arrays g.arrays

  acts_same : (acts : List Act) → shown image acts ≡ shown_acts g.arrays acts
  acts_same acts = ap (λ (xs : List GraphArray). shown_acts xs acts) back

  shows : (now o : Outside) → Shown g now o → ShowsOutside image now o
  shows now o s = record {
    acts = acts_same now.acts ∙ s.acts;
    cells = ap (λ (xs : List Array). image_shown.shown_cells xs now.cells) arrays
        ∙ same_cells g.arrays now.cells ∙ s.cells;
    input = s.input;
    left = s.left;
  }

  shows_at : (a b o : Outside) → a ≡ b → Shown g b o → ShowsOutside image a o
  shows_at a b o e s = shows a o (subst (λ (x : Outside). Shown g x o) (sym e) s)

  draft_cost : (k : ℕ) → CostAtMost image world k → CostAtMost draft world k
  draft_cost k c t =
      let f = follow.follows t in
      let l : length (instances image world f.steps) ≤ k = c f.steps in
      let e : length (instances image world f.steps) ≡ length (instances draft world t) + _ = f.fired in
      omega (arith, e, l)

  exactly : (m cost : ℕ) (h : ℕ → Config) (c : Config) → walk g m (h (0 + cost)) ≡ c → walk g m (h cost) ≡ c
  exactly m cost h c e = let z : 0 + cost ≡ cost = omega arith in subst (λ n. walk g m (h n) ≡ c) z e

  covered : (t : ℕ) → Reaches g world (mem draft world t).acts
  covered t = go (at_came g (length draft.blocks * suc (length (instances draft world t))) _ _ [])
    where
      go : Came g (length draft.blocks * suc (length (instances draft world t))) (opening g world)
          → Reaches g world (mem draft world t).acts
      go (stands cost b s frames d) =
          let e : walk g (length draft.blocks * suc (length (instances draft world t))) (opening g world cost)
          ≡ At b s frames 0 = exactly (length draft.blocks * suc (length (instances draft world t))) cost
          (opening g world) (At b s frames 0) (d 0) in
          let w = (keeps cost).goes_on (length draft.blocks * suc (length (instances draft world t))) b s
          frames 0 e in
          let l = more_later draft world t w.0
          (more_instances (length draft.blocks) (length (instances draft world t))
          (length (instances draft world w.0)) w.3) in
          let r = reaches answers g rules world cost
          (length draft.blocks * suc (length (instances draft world t))) b s frames 0 e in
          let f : ActsBegin (mem draft world t).acts s.out.acts =
          subst (λ (o : Outside). ActsBegin (mem draft world t).acts o.acts) w.2
          (front_at draft world t w.0 l) in
          record {
            turns = r.turns;
            end = r.end;
            is = r.is;
            front = begins_then (mem draft world t).acts
                s.out.acts r.end.acts f r.front;
          }
      go (over cost o d) =
          let e : walk g (length draft.blocks * suc (length (instances draft world t))) (opening g world cost)
          ≡ Over o 0 = exactly (length draft.blocks * suc (length (instances draft world t))) cost
          (opening g world) (Over o 0) (d 0) in
          let w = (keeps cost).ends (length draft.blocks * suc (length (instances draft world t))) o 0 e in
          record {
            turns = cost;
            end = o;
            is = inl ((length draft.blocks * suc (length (instances draft world t))), e);
            front = subst (λ (p : Outside). ActsBegin (mem draft world t).acts p.acts) w.2
                (front_end draft world t w.0 w.1);
          }

  image_covered : (t : ℕ) → Reaches g world (mem image world t).acts
  image_covered t =
      let f = follow.follows t in
      let c = covered t in
      let b : ActsBegin (mem image world t).acts (mem draft world t).acts =
      subst (λ (o : Outside). ActsBegin (mem image world t).acts o.acts) f.outside
      (front_at image world t f.steps f.as_many) in
      record {
        turns = c.turns;
        end = c.end;
        is = c.is;
        front = begins_then (mem image world t).acts
            (mem draft world t).acts c.end.acts b c.front;
      }

  bounded : (k : ℕ) → CostAtMost image world k → (n : ℕ) × (o : Outside) × Passes parts world n o
  bounded k c = go (at_came g (length draft.blocks * suc k) _ _ [])
    where
      go : Came g (length draft.blocks * suc k) (opening g world) → (n : ℕ) × (o : Outside)
          × Passes parts world n o
      go (stands cost b s frames d) =
          let e : walk g (length draft.blocks * suc k) (opening g world cost) ≡ At b s frames 0 =
          exactly (length draft.blocks * suc k) cost (opening g world) (At b s frames 0) (d 0) in
          let w = (keeps cost).goes_on (length draft.blocks * suc k) b s frames 0 e in
          let l = more_instances (length draft.blocks) k (length (instances draft world w.0)) w.3 in
          let u : length (instances draft world w.0) ≤ k = draft_cost k c w.0 in
          absurd (omega (arith, l, u))
      go (over cost o d) =
          let e : walk g (length draft.blocks * suc k) (opening g world cost) ≡ Over o 0 =
          exactly (length draft.blocks * suc k) cost (opening g world) (Over o 0) (d 0) in
          let r = program.ends_only world cost o ((length draft.blocks * suc k), e) in
          (cost, r.0, r.1)

  ends : (n : ℕ) (o : Outside) → Passes parts world n o → (t : ℕ) × (has_ended image world t ≡ true)
      × ShowsOutside image (mem image world t) o
  ends n o p =
      let r = program.ends world n o p in
      let w = (keeps n).ends r.1.0 r.0 0 r.1.1 in
      let f = follow.follows w.0 in
      (f.steps, f.ended ∙ w.1, shows_at (mem image world f.steps) r.0 o (f.outside ∙ w.2) r.2)

  ends_only : (t : ℕ) → has_ended image world t ≡ true → (n : ℕ) × (o : Outside) × Passes parts world n o
      × ShowsOutside image (mem image world t) o
  ends_only t e =
      let b = bounded (length (instances image world t)) (whole_cost image world t e) in
      let r = ends b.0 b.1 b.2 in (
        b.0,
        b.1,
        b.2,
        subst (λ (x : Outside). ShowsOutside image x b.1)
            (sym (same_end image world t r.0 e r.1)) r.2,
      )

  goes : (n : ℕ) (o : Outside) → Flows parts world n o → (t : ℕ) × ActsBegin o.acts
      (shown image (mem image world t).acts)
  goes n o p =
      let r = program.goes world n o p in
      let w = (keeps n).out_of_turns r.1.0 r.0 r.1.1 in
      let f = follow.follows w.0 in (
        f.steps,
        (
          shown_acts g.arrays w.1.0,
          acts_same (mem image world f.steps).acts
              ∙ ap (λ (x : Outside). shown_acts g.arrays x.acts) f.outside
              ∙ ap (shown_acts g.arrays) w.1.1
              ∙ shown_both g.arrays r.0.acts w.1.0
              ∙ ap (λ (z : List Act). z ++ shown_acts g.arrays w.1.0) r.2.acts,
        ),
      )

  shown_begins : (xs ys : List Act) (o : Outside) → ActsBegin xs ys → shown_acts g.arrays ys ≡ o.acts
      → ActsBegin (shown image xs) o.acts
  shown_begins xs ys o b e = (
    shown_acts g.arrays b.0,
    sym e ∙ ap (shown_acts g.arrays) b.1 ∙ shown_both g.arrays xs b.0
        ∙ ap (λ (z : List Act). z ++ shown_acts g.arrays b.0) (sym (acts_same xs)),
  )

  goes_only : (t : ℕ) → (n : ℕ) × ActsBegin (shown image (mem image world t).acts) (acts_in parts world n)
  goes_only t = go (image_covered t)
    where
      go : Reaches g world (mem image world t).acts
          → (n : ℕ) × ActsBegin (shown image (mem image world t).acts) (acts_in parts world n)
      go c = elim c.is [
        | inl e ↦ (let r = program.ends_only world c.turns c.end e in
            let b = shown_begins (mem image world t).acts c.end.acts r.0 c.front r.2.acts in
            (c.turns, (b.0, ap (λ (x : CallEnd). (outside_of x).acts) r.1.1 ∙ b.1)))
        | inr e ↦ (let r = program.goes_only world c.turns c.end e in
            let b = shown_begins (mem image world t).acts c.end.acts r.0 c.front r.2.acts in
            (c.turns, (b.0, ap (λ (x : CallEnd). (outside_of x).acts) r.1 ∙ b.1)))
      ]

  inside : (t : ℕ) → AllInside (map in_graph image.arrays) (mem image world t).acts
  inside t = subst (λ (xs : List GraphArray). AllInside xs (mem image world t).acts) (sym back)
      (front_all (IsInside g.arrays) (mem image world t).acts c.front.0
      (subst (AllInside g.arrays) c.front.1 all))
    where
      c : Reaches g world (mem image world t).acts
      c = image_covered t

      all : AllInside g.arrays c.end.acts
      all = elim c.is [
        | inl e ↦ (program.inside world).ends c.turns c.end e
        | inr e ↦ (program.inside world).goes c.turns c.end e
      ]

  pub walks_as_run : WalksAsRun parts image world
  walks_as_run = record {
    ends = ends;
    ends_only = ends_only;
    goes = goes;
    goes_only = goes_only;
    endless = λ h k c. endless (λ n. (let r = program.goes world n (h n).0 (h n).1 in (r.0, r.1))) k
        (draft_cost k c);
    bounded = bounded;
    inside = inside;
  }
