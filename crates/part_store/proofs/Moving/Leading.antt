-- Moves in turn.
use Rattle.std.proofs.Common.{ℕ, ◌≡◌, Bool, List, [], ◌++◌, Option, Some, None, refl, sym, ap, ◌∙◌, subst}
use Rattle.std.proofs.Common.{arith}
use Rattle.std.proofs.lemmas.List.{append_assoc, append-nil}
use Rattle.ws_isa.specs.Image.{Image, Token, sends}
use Rattle.part_store.specs.declared.parts.Parts.{Parts}
use Rattle.part_store.proofs.Moving.Goes as G
use Rattle.part_store.specs.Rules.{Alike, Moves, stays, opens, joins, issues, follows, stops, operands_at}
use Rattle.part_store.specs.Parts.{MovesOn, Calm, StaysCalm, content_of, PartsLeadTo}
use Rattle.part_store.specs.Contents.{PartContent}

no_going : {X : Type 0} (c : PartContent) (a : ℕ) → c.fault ≡ Some a → c.fault ≡ None → X
no_going c a e f = absurd (let g : Some a ≡ None = sym e ∙ f in cc)

-- nothing moves where the chain is stopped
stopped_stays : (image : Image) (c d : PartContent) (a : ℕ) (ts : List Token) → c.fault ≡ Some a →
    Moves image c ts d → (ts ≡ []) × (d ≡ c)
stopped_stays v0 v1 v2 v3 v4 v5 v6 = grind (arith, no_going)

pub moves_on : (image : Image) (a b c : PartContent) (xs ys : List Token) → Moves image a xs b →
    Moves image b ys c → Moves image a (xs ++ ys) c
moves_on image a b c xs ys stays more = more
moves_on image a b c xs ys (opens {d = d} k f o g rest) more = opens k f o g (moves_on _ _ _ _ _ _ rest more)
moves_on image a b c xs ys (joins {d = d} k f g h go rest) more =
    joins k f g h go (moves_on image d b c xs ys rest more)
moves_on image a b c xs ys (issues {d = d} {rest = r} k word left f g h answers go rest) more = rw
    (append_assoc (sends image k.wave k.instr (operands_at image k)
    word) r ys) (issues k word left f g h answers go (moves_on image d b c r ys rest more))
moves_on image a b c xs ys (follows {d = d} {some = some} {rest = r} first fol going go rest) more = rw
    (append_assoc some r ys) (follows first fol going go (moves_on image d b c r ys rest more))
moves_on image a b c xs ys (stops k f) more =
    let r = stopped_stays image _ c _ ys refl more in
    rw r.0 (rw r.1 (stops k f))

pub same : (c : PartContent) → Alike c c
same c = grind arith

module _ {P : Type 0} where
  pub none_yet : (image : Image) (s : Parts P) (ts : List Token) → MovesOn image s s ts ts
  none_yet image s ts = ([], sym (append-nil ts), λ world began formed sound calm. (stays, calm))

  pub one_more : (image : Image) (a b c : Parts P) (t0 t1 t2 : List Token) → MovesOn image a b t0 t1 →
      MovesOn image b c t1 t2 → MovesOn image a c t0 t2
  one_more image a b c t0 t1 t2 all one = (
    all.0 ++ one.0,
    one.1 ∙ ap (λ (ts : List Token). ts ++ one.0) all.1 ∙ append_assoc t0 all.0 one.0,
    λ world began formed sound calm. let r = all.2 world began formed sound calm in let q = one.2 world
        began formed sound r.1 in
        (moves_on image (content_of a) (content_of b) (content_of c) all.0 one.0 r.0 q.0, q.1),
  )

  pub led : (image : Image) (a b : Parts P) (t0 t1 : List Token) → MovesOn image a b t0 t1 →
      PartsLeadTo image a b t0 t1
  led image a b t0 t1 all = (
    all.0,
    all.1,
    λ world began formed sound calm. let r = all.2 world began formed sound calm in
        (record { mid = content_of b; moves = r.0; alike = same (content_of b) }, r.1),
  )

  -- a port that doesn't answer changes no more than what it tells of its faults
  pub still : (image : Image) (a b c : Parts P) (t0 t1 : List Token) → MovesOn image a b t0 t1 →
      StaysCalm image b c → PartsLeadTo image a c t0 t1
  still image a b c t0 t1 all so = (
    all.0,
    all.1,
    λ world began formed sound calm. let r =
        all.2 world began formed sound calm in let q = so world began r.1 in
        (record { mid = content_of b; moves = r.0; alike = q.1 }, q.0),
  )

  -- it doesn't matter where what waits is found
  pub sought : (image : Image) (a b c : Parts P) (t0 t1 : List Token) →
      c ≡ record b { order = record b.order { near = c.order.near } } → MovesOn image a b t0 t1 →
      MovesOn image a c t0 t1
  sought image a b c t0 t1 same all = (
    all.0,
    all.1,
    λ world began formed sound calm.
        let r = all.2 world began formed sound calm in
        subst (λ (x : Parts P). Moves image (content_of a) all.0 (content_of x) × Calm image world began x)
        (sym same) (grind arith),
  )

alike_on : (a b c : PartContent) → Alike a b → Alike b c → Alike a c
alike_on a b c x y = record {
  kept = y.kept ∙ x.kept;
  bare = y.bare ∙ x.bare;
  queued = y.queued ∙ x.queued;
  chain = y.chain ∙ x.chain;
  fault = y.fault ∙ x.fault;
  cells = y.cells ∙ x.cells;
  input = y.input ∙ x.input;
  printed = y.printed ∙ x.printed;
  ports = λ began o h. y.ports began o (x.ports began o h);
}

-- what is kept in mind of ports doesn't matter
pub minded : {P : Type 0} (image : Image) (a b : Parts P) (f : Option ℕ) (t : Bool) (t0 t1 : List Token) →
    PartsLeadTo image a b t0 t1 → PartsLeadTo image a (record b { failed = f; starved = t }) t0 t1
minded {P} image a b f t t0 t1 all = (
  all.0,
  all.1,
  λ world began formed sound calm.
      let r = all.2 world began formed sound calm in
      grind (arith, G.still_calm, alike_on),
)
