use Rattle.std.proofs.Common.{arith, ◌≡◌, ◌+◌, ◌<◌, ℕ, List, length, Option, Some, cond, ap, ◌∙◌, sym, subst}
use Rattle.std.proofs.Common.{set, get_or}
use Rattle.df_core.specs.Core.{same_key}
use Rattle.match_table.specs.Pages.{NamesStay, PageContent, PageStore, code_of, name_for, narrow, place_of}
use Rattle.match_table.specs.Pages.{seen_in}
use Rattle.match_table.specs.Ports.{none_half, set_half, with_half}
use Rattle.match_table.proofs.Codes.{more_within}
use Rattle.match_table.proofs.Spots.{changed_names}
use Rattle.match_table.proofs.Store.{named_is, port_seen, set_changed, set_ok, still_clean, still_sixteen}
use Rattle.ws_words.proofs.Options.{some_same}
use Rattle.match_table.proofs.pages.Pages.set_word.Goals as goal

-- the page that is found under the key is the instance's
own_name : (c : goal.After-self-1) → c.index_mut-page.result.now.name ≡ name_for c.args.wave c.args.half
own_name c = grind (arith, named_is)

-- and has the value at the port
own_entries : (c : goal.After-self-1) → c.put_at.new.page.entries ≡ set c.index_mut-page.result.now.entries
    (place_of c.args.wave) (set_half (get_or c.index_mut-page.result.now.entries (place_of c.args.wave)
    none_half) c.args.port (code_of c.args.is_wide c.args.word))
own_entries c = ap (λ (x : PageContent). x.entries) c.put_at.ensures
    ∙ ap (λ k. set c.index_mut-page.result.now.entries k
    (set_half (get_or c.index_mut-page.result.now.entries k none_half) c.args.port
    (code_of c.args.is_wide c.args.word))) c.place_of.ensures.place

same_name : (c : goal.After-self-1) → c.put_at.new.page.name ≡ c.index_mut-page.result.now.name
same_name c = ap (λ (x : PageContent). x.name) c.put_at.ensures

same_even : (c : goal.After-self-1) → c.put_at.new.page.even ≡ c.index_mut-page.result.now.even
same_even c = ap (λ (x : PageContent). x.even) c.put_at.ensures

same_odd : (c : goal.After-self-1) → c.put_at.new.page.odd ≡ c.index_mut-page.result.now.odd
same_odd c = ap (λ (x : PageContent). x.odd) c.put_at.ensures

-- what has come then, in codes
codes : (c : goal.After-self-1) → (a b : ℕ)
    → seen_in (set c.self.inside.forest.pages.slots c.args.key (Some c.put_at.new.page)) a b
    ≡ cond (same_key c.args.wave c.args.half a b) (Some (with_half
    (seen_in c.self.inside.forest.pages.slots c.args.wave c.args.half) c.args.port
    (code_of c.args.is_wide c.args.word))) (seen_in c.self.inside.forest.pages.slots a b)
codes c = port_seen c.self.inside.forest.roots.items c.self.inside.forest.pages.slots c.self.invariant.0
    c.args.key c.args.wave c.args.half c.args.port (code_of c.args.is_wide c.args.word)
    c.index_mut-page.result.now c.put_at.new.page c.index_mut-page.ensures.value (own_name c) (same_name c)
    (same_even c) (same_odd c) (own_entries c)

slots_are : (c : goal.After-self-1) → c.self.inside.forest.pages.slots ≡ c.args.self.now.entries.slots
slots_are c = ap (λ (s : PageStore). s.entries.slots) c.self.view_is

wide_are : (c : goal.After-self-1) → c.self.inside.forest.wide.items ≡ c.args.self.now.entries.wide
wide_are c = ap (λ (s : PageStore). s.entries.wide) c.self.view_is

pub invariant_of-self : goal.invariant_of-self
invariant_of-self c = let roots = c.self.inside.forest.roots.items in
    let slots = c.self.inside.forest.pages.slots in
    let u : PageContent = c.index_mut-page.result.now in let v : PageContent = c.put_at.new.page in
    let at = c.index_mut-page.ensures.value in let ok = c.self.invariant.0 in
    let code = code_of c.args.is_wide c.args.word in (
      set_ok slots c.args.key u v at (same_name c) (same_even c) (same_odd c) roots ok
          (still_sixteen roots slots ok c.args.key c.args.wave c.args.half c.args.port code u v at
          (own_name c) (same_name c) (same_even c) (same_odd c) (own_entries c))
          (still_clean roots slots ok c.args.key c.args.wave c.args.half c.args.port code u v at
          (own_name c) (same_name c) (same_even c) (same_odd c) (own_entries c)),
      more_within c.self.inside.forest.wide.items slots (set slots c.args.key (Some v)) c.args.wave
          c.args.half c.args.port code c.self.invariant.1
          (subst (λ (w : List ℕ). code < narrow + length w) (sym (wide_are c)) c.requires.within) (codes c),
    )

pub returns-clause-seen : goal.returns-clause-seen
returns-clause-seen c = subst (λ (x : List (Option PageContent)). (a b : ℕ)
    → seen_in (set c.self.inside.forest.pages.slots c.args.key (Some c.put_at.new.page)) a b
    ≡ cond (same_key c.args.wave c.args.half a b) (Some (with_half (seen_in x c.args.wave c.args.half)
    c.args.port (code_of c.args.is_wide c.args.word))) (seen_in x a b)) (slots_are c) (codes c)

pub returns-clause-stay : goal.returns-clause-stay
returns-clause-stay c = subst (λ (x : List (Option PageContent)). NamesStay x
    (set c.self.inside.forest.pages.slots c.args.key (Some c.put_at.new.page))) (slots_are c)
    (changed_names _ _ _ _ (set_changed _ _ _ _ c.index_mut-page.ensures.value)
    (λ d there. ap (λ (x : PageContent). x.name) (some_same (sym there ∙ c.index_mut-page.ensures.value))
    ∙ sym (same_name c)))
