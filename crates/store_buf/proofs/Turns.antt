-- Issues in turn, and more of them.
use Rattle.std.proofs.Common.{ℕ, ◌≡◌, ◌⊎◌, Bool, List, [], ◌++◌, Option, sym, ap, ◌∙◌, subst, inl, inr, arith}
use Rattle.std.proofs.lemmas.List.{append_assoc, append-nil}
use Rattle.ws_words.specs.Outside.{World}
use Rattle.ws_isa.specs.Image.{Image, Token}
use Rattle.df_core.specs.Core.{has}
use Rattle.df_core.specs.Shown.{Buffer}
use Rattle.df_core.specs.Chains.{chain_of}
use Rattle.store_buf.specs.declared.order.Order.{Order}
use Rattle.store_buf.specs.declared.store.Store.{Store}
use Rattle.store_buf.specs.declared.wave_places.WavePlaces.{WavePlaces}
use Rattle.store_buf.specs.Contents.{FaultIs, RightTokens}
use Rattle.store_buf.specs.Holds.{Issued, Stopped, Issues, stays, goes, stops, part}
use Rattle.store_buf.specs.Stores.{buffer_of, IssueLeads, StaysSo, AllLead}
use Rattle.df_core.proofs.Walked.SlotLists.{is_sent_append_cases as sent_either}

pub issues_on : (image : Image) (a b c : Buffer) (xs ys : List Token) → Issues image a xs b
    → Issues image b ys c → Issues image a (xs ++ ys) c
issues_on image a b c xs ys stays more = more
issues_on image a b c xs ys (goes {c = d} {some = some} {rest = rest} w i e on) more =
    subst (λ (ts : List Token). Issues image a ts c) (sym (append_assoc some rest ys))
    (goes w i e (issues_on image d b c rest ys on more))
issues_on image a b c xs ys (stops {c = d} w i e on) more = stops w i e (issues_on image d b c xs ys on more)

-- one issue, or a stop
one_issue : (image : Image) (b c : Buffer) (w i : ℕ) (ts : List Token) → Issued image b w i ts c
    ⊎ (Stopped image b w i c × (ts ≡ [])) → Issues image b ts c
one_issue image b c w i ts (inl e) = subst (λ (us : List Token). Issues image b us c) (append-nil ts)
    (goes w i e stays)
one_issue image b c w i ts (inr e) = subst (λ (us : List Token). Issues image b us c) (sym e.1)
    (stops w i e.0 stays)

right_both : (image : Image) (world : World) (xs ys : List Token) → RightTokens image world xs
    → RightTokens image world ys → RightTokens image world (xs ++ ys)
right_both image world xs ys a b w i p v e = grind (arith, sent_either)

module _ {P : Type 0} where
  pub none_yet : (image : Image) (s : Store P) (ts : List Token) → AllLead image s s ts ts
  none_yet image s ts = (
    [],
    sym (append-nil ts),
    λ world began m formed sound stands.
        record { memory = m; issues = stays; right = λ w i p v e. absurd e; fault = λ f. f; stands = stands },
  )

  -- what one issue leads to
  pub lead_one : (image : Image) (a b : Store P) (t0 t1 : List Token) → IssueLeads image a b t0 t1
      → AllLead image a b t0 t1
  lead_one image a b t0 t1 one = (
    one.0,
    one.1,
    λ world began m formed sound stands.
        let q = one.2 world began m formed sound stands in
        record {
          memory = q.memory;
          issues = one_issue image (buffer_of image a m) (buffer_of image b q.memory) q.wave q.instr one.0
              q.event;
          right = q.right;
          fault = λ f. q.fault;
          stands = q.stands;
        },
  )

  pub lead_on : (image : Image) (a b c : Store P) (t0 t1 t2 : List Token) → AllLead image a b t0 t1
      → AllLead image b c t1 t2 → AllLead image a c t0 t2
  lead_on image a b c t0 t1 t2 all more = (
    all.0 ++ more.0,
    more.1 ∙ ap (λ (ts : List Token). ts ++ more.0) all.1 ∙ append_assoc t0 all.0 more.0,
    λ world began m formed sound stands.
        let r = all.2 world began m formed sound stands in
        let q = more.2 world began r.memory formed sound r.stands in
        record {
          memory = q.memory;
          issues = issues_on image (buffer_of image a m) (buffer_of image b r.memory) (buffer_of image c
              q.memory) all.0 more.0 r.issues q.issues;
          right = right_both image world all.0 more.0 r.right q.right;
          fault = λ f. q.fault (r.fault f);
          stands = q.stands;
        },
  )

  pub one_more : (image : Image) (a b c : Store P) (t0 t1 t2 : List Token) → AllLead image a b t0 t1
      → IssueLeads image b c t1 t2 → AllLead image a c t0 t2
  one_more image a b c t0 t1 t2 all one = lead_on image a b c t0 t1 t2 all (lead_one image b c t1 t2 one)

  pub still : (image : Image) (a b c : Store P) (t0 t1 : List Token) → AllLead image a b t0 t1
      → StaysSo image b c → c.order ≡ b.order → c.fault ≡ b.fault → AllLead image a c t0 t1
  still image a b c t0 t1 all so order fault = (
    all.0,
    all.1,
    λ world began m formed sound stands.
        let r = all.2 world began m formed sound stands in
        record {
          memory = r.memory;
          issues = subst (λ (x : Order). Issues image (buffer_of image a m) all.0 (part image x.kept.items
              (chain_of x.chain) (has c.fault) r.memory)) (sym order) (subst (λ (f : Option ℕ). Issues image
              (buffer_of image a m) all.0 (part image b.order.kept.items (chain_of b.order.chain) (has f)
              r.memory)) (sym fault) r.issues);
          right = r.right;
          fault = λ f. subst (FaultIs image world) (sym fault) (r.fault f);
          stands = so world began r.memory r.stands;
        },
  )

  -- it doesn't matter where the requests that wait are found
  pub sought : (image : Image) (a b : Store P) (near : WavePlaces) (t0 t1 : List Token)
      → AllLead image a b t0 t1 → AllLead image a (record b { order = record b.order { near = near } }) t0 t1
  sought image a b near t0 t1 all = (
    all.0,
    all.1,
    λ world began m formed sound stands.
        let r = all.2 world began m formed sound stands in
        record {
          memory = r.memory;
          issues = r.issues;
          right = r.right;
          fault = r.fault;
          stands = record { going = r.stands.going; right = r.stands.right; outside = r.stands.outside };
        },
  )

  -- what is kept in mind of ports doesn't matter
  pub in_mind : (image : Image) (a b : Store P) (f g : Option ℕ) (s t : Bool) (t0 t1 : List Token)
      → AllLead image a b t0 t1 → AllLead image (record a { failed = f; starved = s })
      (record b { failed = g; starved = t }) t0 t1
  in_mind image a b f g s t t0 t1 all = (
    all.0,
    all.1,
    λ world began m formed sound stands.
        let r = all.2 world began m formed sound stands in
        record { memory = r.memory; issues = r.issues; right = r.right; fault = r.fault; stands = r.stands },
  )
