-- Where in a tree an instance stands or would stand.
use Rattle.std.specs.Prelude.{ℕ, suc, ◌≡◌, ◌<◌, ◌≤◌, true, false, List, length, Option, Some, None}
use Rattle.df_core.specs.Core.{same_key}
use Rattle.store_buf.specs.declared.kept.Kept.{Kept}
use Rattle.store_buf.specs.declared.node.Node.{Node}
use Rattle.store_buf.specs.declared.index.Hook.{Hook}
use Rattle.store_buf.specs.declared.index.Hook.TheVariants.{Root, At, Behind, Deep}
use Rattle.store_buf.specs.Requests.{request_at}
use Rattle.store_buf.specs.Trees.{LeadsTo, child_of, node_at, seek}

-- the tree is empty; the instance has this node; its node would stand behind this one; or it has none, and
-- there is no level for one
abbrev pub HookIs : List Kept → List Node → ℕ → ℕ → ℕ → Hook → Type 0
HookIs ks nodes root w i Root = length nodes ≤ root
HookIs ks nodes root w i (At at) = (at < length nodes)
    × (same_key (request_at ks at).wave (request_at ks at).instr w i ≡ true)
    × ((left : ℕ) × (key : ℕ) × LeadsTo ks nodes root w i (suc left) at key)
HookIs ks nodes root w i (Behind at key) = (at < length nodes)
    × (same_key (request_at ks at).wave (request_at ks at).instr w i ≡ false)
    × (length nodes ≤ child_of (node_at nodes at) key)
    × ((left : ℕ) × LeadsTo ks nodes root w i (suc (suc left)) at key)
HookIs ks nodes root w i Deep = seek ks nodes 33 root i w i ≡ None

-- the place of an instance that stands or would stand there
abbrev pub place_of : Hook → Option ℕ
place_of (At at) = Some at
place_of hook = None
