-- First entries on a cell are done, one after another.
use Rattle.std.proofs.Common.{ℕ, ◌≡◌, false, List, [], ◌++◌, Some, sym, ap, ◌∙◌, arith}
use Rattle.std.proofs.lemmas.List.{append_assoc, append-nil}
use Rattle.ws_isa.specs.Image.{Image, Token}
use Rattle.part_store.specs.declared.entry.Queued.{Queued}
use Rattle.part_store.specs.declared.parts.Parts.{Parts}
use Rattle.part_store.specs.Bares.{is_in}
use Rattle.part_store.specs.Queues.{front, without_first}
use Rattle.part_store.specs.Rules.{FrontGoes, stays}
use Rattle.part_store.specs.Parts.{FinishLeads, FollowsOn, content_of}
use Rattle.part_store.proofs.Queueing.Fronts as F
use Rattle.part_store.proofs.Moving.Leading as L
use Rattle.part_store.proofs.Queueing.Lines as N

-- a cell's first operation stands on it
pub on_its_cell : (es : List Queued) (r j : ℕ) (e : Queued) → front es r j ≡ Some e →
    front es e.row e.index ≡ Some e
on_its_cell es r j e h = grind (arith, F.front_in es r j e h)

module _ {P : Type 0} where
  pub none_yet : (image : Image) (r j : ℕ) (s : Parts P) (ts : List Token) → FollowsOn image r j s s ts ts
  none_yet image r j s ts =
      ([], sym (append-nil ts), λ world began formed sound st going but. (stays, st, but))

  pub one_more : (image : Image) (r j : ℕ) (e : Queued) (a b c : Parts P) (t0 t1 t2 : List Token) →
      FollowsOn image r j a b t0 t1 → FinishLeads image e b c t1 t2 →
      front b.queues.entries.items r j ≡ Some e → is_in b.bare e.wave e.instr ≡ false →
      b.fault ≡ a.fault → c.queues.entries.items ≡ without_first b.queues.entries.items e.row e.index →
      c.bare ≡ b.bare → FollowsOn image r j a c t0 t2
  one_more image r j e a b c t0 t1 t2 all one h whole fault queued bare = (
    all.0 ++ one.0,
    one.1 ∙ ap (λ (ts : List Token). ts ++ one.0) all.1 ∙ append_assoc t0 all.0 one.0,
    λ world began formed sound st going but.
        let x = all.2 world began formed sound st going but in
        let on = (F.front_in _ _ _ _ h).1 in
        let fol : FrontGoes (content_of b) e = record { first = on_its_cell _ _ _ _ h; whole = whole } in
        let y = one.2 world began formed sound x.1 (fault ∙ going) fol in (
          L.moves_on _ _ _ _ _ _ x.0 y.0,
          y.1,
          λ f q l g n. ap (λ (m : _). is_in m f.wave f.instr) bare ∙ x.2 f q l (sym (N.first_other
              _ _ _ _ _ (λ y z. n (y ∙ on.row) (z ∙ on.index))) ∙ rw (← queued) g) n,
        ),
  )
