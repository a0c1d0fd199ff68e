-- The way that planning notes and the change takes: for each segment of a query the trie below it and the branches that its insertion builds.
use Rattle.std.specs.Prelude.{ℕ, ◌≡◌, List, [], ◌∷◌, ◌++◌, take, slice_index_or, slice_set}
use Rattle.source.specs.Text.{Str, Query, segments}
use Rattle.source.specs.Types.{Trie, NameList, ns, bindings, namespaces}
use Rattle.source.specs.Tries.{scope_of}
use Rattle.source.specs.Plans.{insert_branches, first_tree}
use Rattle.source.specs.declared.LidSymbol.{LidSymbol}
use Rattle.memory.specs.Layout.{Which, Item, names, modules, trieˢ, what}
use Rattle.memory.specs.Sound.{Reads}
use Rattle.register_kind.specs.Shapes.{shape_of}
use Rattle.register_kind.specs.declared.Form.{Form}
use Rattle.register_kind.specs.declared.Form.TheVariants as form
use Rattle.register_kind.specs.declared.CallKind.{CallKind}
use Rattle.register_kind.specs.declared.CallKind.TheVariants.{Name, Include, Open, Alias, Module}
use Rattle.register_way.specs.declared.Way.{Way}
use Rattle.register_way.specs.declared.Step.{Step}

-- The table that a form changes.
abbrev pub which_by : Form → Which
which_by form.Name = names
which_by form.Import = names
which_by (form.Module loaded) = modules

-- ---- What it says

-- The branches that the insertion at the host builds: of the id of a name into its bindings, of the key of an alias into its namespaces.
-- The others insert nothing there.
abbrev pub HostBuilds : {A : Type 0} → CallKind → (other key : Str) → Trie A → ℕ → Type 0
HostBuilds (Name k n) other key tr count = count ≡ insert_branches (first_tree (bindings tr)) other
HostBuilds Include other key tr count = Unit {0}
HostBuilds Open other key tr count = Unit {0}
HostBuilds Alias other key tr count = count ≡ insert_branches (first_tree (namespaces tr)) key
HostBuilds (Module loaded) other key tr count = Unit {0}

-- What a step says of the segment s from the list nl of namespaces:
-- the trie below it, no later than x, and the branches that the insertion of s builds.
pub record StepNoted (ws txt : List ℕ) (w : Which) (x : ℕ) (nl : NameList (Item w) ns) (s : Str)
    (step : Step) : Type 0 where
  pub next : Reads ws txt w x step.below (scope_of nl s)
  pub builds : step.count ≡ insert_branches (first_tree nl) s

-- The steps from the trie x down a query, and the one at the host.
module _ (ws txt : List ℕ) (w : Which) (k : CallKind) (other key : Str) where
  abbrev pub WayDown : List Step → ℕ → Query → Type 0
  WayDown [] x q = ⊥
  WayDown (step ∷ way) x [] = HostBuilds k other key (what w ws txt x trieˢ) step.count
  WayDown (step ∷ way) x (s ∷ q) =
      StepNoted ws txt w x (namespaces (what w ws txt x trieˢ)) s step × WayDown way step.below q

-- ---- What planning notes

-- The step after steps others.
abbrev pub step_at : Way → ℕ → Step
step_at way steps = slice_index_or way.steps steps (record { below = 0; count = 0 })

-- It is noted, and nothing else.
pub record NotesStep (way way' : Way) (steps : ℕ) (step : Step) : Type 0 where
  pub kept : way'.included ≡ way.included
  pub noted : way'.steps ≡ slice_set way.steps steps step

-- The count of it is: at the host, after its steps.
abbrev pub NotesHost : (way way' : Way) (steps count : ℕ) → Type 0
NotesHost way way' steps count = NotesStep way way' steps (record { below = (step_at way steps).below; count = count })

-- After some steps of the query q from the root, down to the trie x with the segments rest left: the included trie is noted as it was,
-- and whatever steps lead on from here, they lead from the root after those noted.
pub record Leads (ws txt : List ℕ) (w : Which) (root : ℕ) (q : Query) (way way' : Way) (steps x : ℕ)
    (rest : Query) : Type 0 where
  pub kept : way'.included ≡ way.included
  pub goes : (k : CallKind) (other key : Str) (left : List Step) → WayDown ws txt w k other key left x rest
      → WayDown ws txt w k other key (take steps way'.steps ++ left) root q

-- The way of a registration is noted beside the included trie, which stays.
pub record WayNotedIn (k : CallKind) (ws txt : List ℕ) (w : Which) (root : ℕ) (host other key : Str)
    (way way' : Way) : Type 0 where
  pub kept : way'.included ≡ way.included
  pub leads : WayDown ws txt w k other key way'.steps root (segments host)

-- Of a name, whatever its item.
abbrev pub NameNoted : (ws txt : List ℕ) (root : ℕ) (host id : Str) (way way' : Way) → Type 0
NameNoted ws txt root host id way way' = (c : LidSymbol) (key : Str)
    → WayNotedIn (Name c.kind c.number) ws txt names root host id key way way'

-- Of an alias.
abbrev pub AliasNoted : (ws txt : List ℕ) (root : ℕ) (key host : Str) (way way' : Way) → Type 0
AliasNoted ws txt root key host way way' = (other : Str) → WayNotedIn Alias ws txt names root host other key way way'

-- Of a kind that inserts nothing at the host.
abbrev pub PathNoted : (k : CallKind) (ws txt : List ℕ) (w : Which) (root : ℕ) (host : Str) (way way' : Way) → Type 0
PathNoted k ws txt w root host way way' = (other key : Str) → WayNotedIn k ws txt w root host other key way way'

-- Of each kind, in its table.
abbrev pub WayNoted : (k : CallKind) (ws txt : List ℕ) (root : ℕ) (host other key : Str) (way way' : Way) → Type 0
WayNoted k ws txt root host other key way way' =
    WayNotedIn k ws txt (which_by (shape_of k).form) root host other key way way'
