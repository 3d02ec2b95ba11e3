-- A token comes to one of the tables.
use Rattle.std.proofs.Common.{◌≡◌, ◌+◌, ◌≤◌, ◌%◌, ⊎_elim, ℕ, zero, suc, true, List, [], ◌∷◌}
use Rattle.std.proofs.Common.{Some, None, length, length-append, slice_set, sym, refl, ap, subst, ◌∙◌, arith}
use Rattle.ws_isa.specs.Image.{Image, Token}
use Rattle.ws_isa.specs.Walk.{Ports}
use Rattle.df_core.specs.Core.{has}
use Rattle.df_core.proofs.Keeping.Ports.{has_some, with_at_same}
use Rattle.match_table.specs.declared.table.Results.{Results}
use Rattle.match_table.specs.declared.table.Took.{Took}
use Rattle.match_table.specs.declared.table.Took.TheVariants as took
use Rattle.match_table.specs.Matching.{TookAs, Arrives}
use Rattle.match_table.specs.Tables.{held, TableContent}
use Rattle.match_table.specs.Growth.{AllGrow, Grows, content_at}
use Rattle.match_table.specs.Limits.{Serves}
use Rattle.match_table.proofs.Growth.{all_grow_same, all_grows}
use Rattle.match_table.proofs.Served.{all_ok, past_serves}
use Rattle.match_table.specs.Together.{ServeFrom, all_fired, together}
use Rattle.match_table.specs.Coming.{BroughtSo, Came, served}

serve_at : (n : ℕ) (cs : List TableContent) (k : ℕ) → ServeFrom n cs → Serves (n + k) (content_at cs k)
serve_at n (c ∷ cs) (suc k) s = grind (arith, serve_at (suc n) cs k s.1)
serve_at n (c ∷ cs) zero s = subst (λ m. Serves m c) (omega arith) s.0
serve_at n [] k s = past_serves (n + k) k

set_serve : (n : ℕ) (cs : List TableContent) (k : ℕ) (c : TableContent) → ServeFrom n cs → Serves (n + k) c
    → ServeFrom n (slice_set cs k c)
set_serve n (d ∷ cs) (suc k) c s x = (
  s.0,
  set_serve (suc n) cs k c s.1 (rw (← let e : n + suc k ≡ suc n + k = omega arith in e) x),
)
set_serve n cs k c s x = grind arith

set_grow : (cs : List TableContent) (k : ℕ) (c : TableContent) → Grows (content_at cs k) c
    → AllGrow cs (slice_set cs k c)
set_grow (d ∷ cs) (suc k) c g = ((all_grow_same (d ∷ cs)).0, set_grow cs k c g)
set_grow cs k c g = grind (arith, all_grow_same)

set_count : (cs : List TableContent) (k : ℕ) (c : TableContent)
    → length c.fired ≤ length (content_at cs k).fired + 1 → length (all_fired (slice_set cs k c))
    ≤ length (all_fired cs) + 1
set_count (d ∷ cs) (suc k) c le = grind (arith, length-append, d.fired, slice_set, set_count cs k c le)
set_count cs k c le = grind (arith, length-append, c.fired)

arrives_there : (old new : TableContent) (t : Token) → Arrives old t new
    → has (held new t.wave t.instr t.port) ≡ true
arrives_there old new t a = grind (arith, a.more, t.instr, with_at_same, t.port)

module _ {J : Type 0} where
  there : (image : Image) (old new : TableContent) (t : Token) (rs : Results J) (answer : Took)
      → TookAs image old t new rs answer → (answer ≡ took.NoMemory → ⊥)
      → has (held new t.wave t.instr t.port) ≡ true
  there image old new t rs answer m some = grind (arith, arrives_there, t.instr)

  module _ (image : Image) (old new : List TableContent) (t : Token)
      (rs : Results J) (answer : Took) (b : BroughtSo image old t new rs answer) where
    abbrev k : ℕ
    k = served t

    pub brought_grow : AllGrow old new
    brought_grow = grind (arith, set_grow, all_grows)

    module _ (s : ServeFrom 0 old) where
      served_old : Serves k (content_at old k)
      served_old = subst (λ n. Serves n (content_at old k)) (omega arith) (serve_at 0 old k s)

      ok : Serves k (content_at new k) × (length (content_at new k).fired ≤ length (content_at old k).fired
          + 1)
      ok = all_ok image (content_at old k) (content_at new k) t rs answer k
          (length (content_at old k).fired + 1) served_old (omega arith) refl (λ f. omega arith) b.1 b.2

      pub brought_serve : ServeFrom 0 new
      brought_serve = rw b.0 (set_serve _ _ _ _ s (rw (← let e : k ≡ 0 + k = omega arith in e) ok.0))

      pub brought_one : length (all_fired new) ≤ length (all_fired old) + 1
      brought_one = grind (arith, set_count old k (content_at new k) ok.1)

    pub brought_there : (answer ≡ took.NoMemory → ⊥) → has ((together new).held t.wave t.instr t.port) ≡ true
    brought_there some = there image (content_at old k) (content_at new k) t rs answer b.1 some

-- what tables held that have grown they hold
grow_at : (olds news : List TableContent) (k w i p v : ℕ) → AllGrow olds news
    → held (content_at olds k) w i p ≡ Some v → held (content_at news k) w i p ≡ Some v
grow_at (o ∷ olds) (n ∷ news) (suc k) w i p v g e = grow_at olds news k w i p v g.1 e
grow_at v0 v1 v2 v3 v4 v5 v6 v7 v8 = grind arith

abbrev pub Keep : Ports → Ports → Type 0
Keep old new = (w i p v : ℕ) → old w i p ≡ Some v → new w i p ≡ Some v

pub grow_keep : (olds news : List TableContent) → AllGrow olds news
    → Keep (together olds).held (together news).held
grow_keep olds news g w i p v e = grow_at olds news ((w + i) % 16) w i p v g e

free_before : (old mid : Ports) (w i p : ℕ) → Keep old mid → mid w i p ≡ None → old w i p ≡ None
free_before old mid w i p keep free = grind arith

pub came_none : (ports : Ports) → Came ports ports 0
came_none ports = grind arith

pub came_keep : (old mid new : Ports) (n : ℕ) → Came old mid n → Keep mid new → Came old new n
came_keep old mid new n c keep = grind (arith, c.there)

pub came_more : (old mid new : Ports) (n : ℕ) → Keep old mid → Came old mid n → Keep mid new → (w i p : ℕ)
    → mid w i p ≡ None → has (new w i p) ≡ true → Came old new (suc n)
came_more old mid new n before c keep w i p free here =
    let h = has_some (new w i p) here in
    let t : Token = record { wave = w; instr = i; port = p; value = h.0 } in
    record {
      tokens = t ∷ c.tokens;
      count_is = ap suc c.count_is;
      apart = ((λ v s. (let f : None ≡ Some v = sym free ∙ c.there w i p v s in cc)), c.apart);
      fresh = grind (arith, ⊎_elim, free_before);
      there = grind (arith, ⊎_elim);
    }
