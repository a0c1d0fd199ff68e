-- Changes of a trie along a query: the source's mut_node with its records, and what the cycle asks and makes.
use Rattle.std.specs.Prelude.{ℕ, ◌+◌, ◌-◌, ◌≤◌, ◌<◌, ◌≡◌, Bool, true, cond, List, [], ◌∷◌, reverse}
use Rattle.source.specs.Limits.{heaviest_list, deepest_trie}
use Rattle.source.specs.Text.{Str, Query, segments, ends_in_dot}
use Rattle.source.specs.Types.{Trie, NameList, bind, ns, trie, bindings}
use Rattle.source.specs.Tries.{scope_of}
use Rattle.source.specs.Terms.{heaviest_names, depth_names}
use Rattle.source.specs.Counted.{Counted, pure, one, ◌>>=◌, MutNodeᶜ, names_insertᶜ, trie_mutateᶜ, ins_stays_loadedᶜ}
use Rattle.source.specs.Queries.{IsQuery}
use Rattle.memory.specs.Layout.{span, names, modules, Item, Sort, tree, list, trieˢ, kind_in, kind, what}
use Rattle.memory.specs.Sound.{LinkOk, Used}
use Rattle.memory.specs.Read.{text_of}
use Rattle.memory.specs.declared.Span.{Span}
use Rattle.insert_record.specs.Made.{Room}
use Rattle.register_way.specs.Way.{which_by, StepNoted, WayDown}
use Rattle.register_way.specs.declared.Step.{Step}
use Rattle.register_kind.specs.Shapes.{shape_of}
use Rattle.register_kind.specs.declared.Form.{Form}
use Rattle.register_kind.specs.declared.Form.TheVariants as form
use Rattle.register_leaf.specs.declared.Change.{Change}
use Rattle.register_change.specs.declared.Descent.{Descent}
use Rattle.register_leaf.specs.Leaves.{which_of, leaf_of, TextFor, ChangeOk, Fits, Builds}

-- ---- Queries in the text

-- The segments of the text from a place to another.
abbrev pub between : List ℕ → ℕ → ℕ → Query
between txt a b = segments (span txt a (b - a))

-- rev_acc, where the query begins at from.
abbrev pub passed : List ℕ → ℕ → ℕ → Query
passed txt from at = reverse (between txt from at)

-- A query from from to end, and in it the place between two segments.
pub record QueryPlace (txt : List ℕ) (used from at end : ℕ) : Type 0 where
  pub early : from ≤ at
  pub inside : at ≤ end
  pub within : end ≤ used
  pub passes : ends_in_dot (span txt from (at - from)) ≡ true
  pub ends : ends_in_dot (span txt at (end - at)) ≡ true
  pub query : IsQuery (between txt from end)

-- The len bytes from at on are the next segment of a text that ends at end.
pub record SegmentCut (txt : List ℕ) (at len end : ℕ) : Type 0 where
  pub inside : at + len < end
  pub alone : between txt at (at + len + 1) ≡ span txt at len ∷ []
  pub splits : between txt at end ≡ span txt at len ∷ between txt (at + len + 1) end
  pub passes : ends_in_dot (span txt at (at + len + 1 - at)) ≡ true
  pub ends : ends_in_dot (span txt (at + len + 1) (end - (at + len + 1))) ≡ true

-- ---- Changes

-- What is added to the kinds of the names table in that of modules.
abbrev pub of_modules : ℕ
of_modules = kind modules trieˢ - kind names trieˢ

-- What is added to them in the table of a change.
abbrev pub Kinds : Change → ℕ → Type 0
Kinds ch r = (r ≤ of_modules) × ((so : Sort) → kind (which_of ch) so ≡ kind_in so + r)

-- The bindings that mut_node gives a trie: a module path's alone are changed.
unfoldable pub bindings_by : List ℕ → (f : Form) → Span → NameList (Item (which_by f)) bind → Str → Query → Query
    → Counted (NameList (Item (which_by f)) bind)
bindings_by txt form.Name text b s q revq = pure b
bindings_by txt form.Import text b s q revq = pure b
bindings_by txt (form.Module loaded) text b s q revq = ins_stays_loadedᶜ (text_of txt text) s q revq b loaded

-- mut_node.
unfoldable pub node_of : List ℕ → (ch : Change) → MutNodeᶜ (Item (which_of ch))
node_of txt ch tr s q revq n = do
  b ← bindings_by txt (shape_of ch.kind).form ch.text (bindings tr) s q revq
  one (trie b n)

-- trie_mutate of a change.
abbrev pub mutated : (ws txt : List ℕ) (ch : Change) → Trie (Item (which_of ch)) → (from at end : ℕ)
    → Counted (Trie (Item (which_of ch)))
mutated ws txt ch tr from at end =
    trie_mutateᶜ tr (between txt at end) (passed txt from at) (node_of txt ch) (λ tr _. leaf_of ws txt ch tr)

-- namespaces_mutate of a change.
abbrev pub namespaces_mutated : (ws txt : List ℕ) (ch : Change) → NameList (Item (which_of ch)) ns
    → (from at len end : ℕ) → Counted (NameList (Item (which_of ch)) ns)
namespaces_mutated ws txt ch nl from at len end = do
  scope ← mutated ws txt ch (scope_of nl (span txt at len)) from (at + len + 1) end
  names_insertᶜ nl (span txt at len) scope

-- ---- On the way down

-- A descent by its parts.
abbrev pub descent : (from end : ℕ) → Change → Descent
descent from end ch = record { from = from; end = end; change = ch }

-- The form of what is registered.
abbrev pub form_of : Descent → Form
form_of d = (shape_of d.change.kind).form

-- The bindings that mut_node gives a trie at the segment of len bytes from at on, where the form is f.
abbrev pub bindings_at : (txt : List ℕ) (at len : ℕ) (d : Descent) (f : Form) → NameList (Item (which_by f)) bind
    → Counted (NameList (Item (which_by f)) bind)
bindings_at txt at len d f b = bindings_by txt f d.change.text b (span txt at len)
    (between txt (at + len + 1) d.end) (passed txt d.from at)

-- mut_node there, of the trie x with the list y of namespaces.
abbrev pub node_at : (ws txt : List ℕ) (x y at len : ℕ) (d : Descent) → Counted (Trie (Item (which_of d.change)))
node_at ws txt x y at len d =
    node_of txt d.change (what (which_of d.change) ws txt x trieˢ) (span txt at len)
    (between txt (at + len + 1) d.end) (passed txt d.from at) (what (which_of d.change) ws txt y (list ns))

-- ---- What a change asks

-- The same of a list of namespaces.
pub record FitsNames {A : Type 0} (ws : List ℕ) (n : ℕ) (c : Counted (NameList A ns)) : Type 0 where
  pub room : Room ws n c.count
  pub light : heaviest_names c.value ≤ heaviest_list
  pub shallow : depth_names c.value ≤ deepest_trie

-- What the change of a trie's bindings asks, where the form is f.
pub record Bindings (ws txt : List ℕ) (n used x at len : ℕ) (d : Descent) (f : Form) : Type 0 where
  pub sound : Used ws txt n used
  pub text_ok : TextFor f txt used d.change.text
  pub link : LinkOk ws (n + 1) x (kind (which_by f) (list bind))
  pub place : QueryPlace txt used d.from at d.end
  pub cut : SegmentCut txt at len d.end
  pub room : Room ws n (bindings_at txt at len d f (what (which_by f) ws txt x (list bind))).count
  pub light : heaviest_names (bindings_at txt at len d f (what (which_by f) ws txt x (list bind))).value
      ≤ heaviest_list

-- What mut_node asks, where y is the new list of namespaces.
pub record Node (ws txt : List ℕ) (n used x y at len : ℕ) (d : Descent) : Type 0 where
  pub change : ChangeOk ws txt n used d.change
  pub link : LinkOk ws (n + 1) x (kind (which_of d.change) trieˢ)
  pub list_link : LinkOk ws (n + 1) y (kind (which_of d.change) (list ns))
  pub place : QueryPlace txt used d.from at d.end
  pub cut : SegmentCut txt at len d.end
  pub fits : Fits ws n (node_at ws txt x y at len d)

-- What namespaces_mutate asks.
pub record NamespacesMutation (ws txt : List ℕ) (n used x at len : ℕ) (d : Descent) : Type 0 where
  pub change : ChangeOk ws txt n used d.change
  pub link : LinkOk ws (n + 1) x (kind (which_of d.change) (list ns))
  pub place : QueryPlace txt used d.from at d.end
  pub cut : SegmentCut txt at len d.end
  pub fits : FitsNames ws n
      (namespaces_mutated ws txt d.change (what (which_of d.change) ws txt x (list ns)) d.from at len d.end)

-- What trie_mutate asks.
pub record Mutation (ws txt : List ℕ) (n used x at : ℕ) (d : Descent) : Type 0 where
  pub change : ChangeOk ws txt n used d.change
  pub link : LinkOk ws (n + 1) x (kind (which_of d.change) trieˢ)
  pub place : QueryPlace txt used d.from at d.end
  pub fits : Fits ws n (mutated ws txt d.change (what (which_of d.change) ws txt x trieˢ) d.from at d.end)

-- The way from the trie x down what is left of the query, to what the change inserts.
pub record TrieWay (ws txt : List ℕ) (x at : ℕ) (d : Descent) (way : List Step) : Type 0 where
  pub leads : WayDown ws txt (which_of d.change) d.change.kind (text_of txt d.change.text)
      (text_of txt d.change.key) way x (between txt at d.end)

-- The step from the list x of namespaces down the segment of len bytes from at on, and the way after it; n records are used.
pub record NamespacesWay (ws txt : List ℕ) (n x at len : ℕ) (d : Descent) (step : Step)
    (way : List Step) : Type 0 where
  pub first : StepNoted ws txt (which_of d.change) n (what (which_of d.change) ws txt x (list ns))
      (span txt at len) step
  pub rest : TrieWay ws txt step.below (at + len + 1) d way

-- ---- What a change makes

-- The change of the bindings.
abbrev pub BindingsBuilt : (ws ws' txt : List ℕ) (n x at len : ℕ) (d : Descent) (f : Form) (link n' : ℕ) → Type 0
BindingsBuilt ws ws' txt n x at len d f link n' =
    (used : ℕ) → Bindings ws txt n used x at len d f
    → Builds ws ws' txt n used (which_by f) (list bind)
    (bindings_at txt at len d f (what (which_by f) ws txt x (list bind))) link n'

-- mut_node.
abbrev pub NodeBuilt : (ws ws' txt : List ℕ) (n x y at len : ℕ) (d : Descent) (link n' : ℕ) → Type 0
NodeBuilt ws ws' txt n x y at len d link n' =
    (used : ℕ) → Node ws txt n used x y at len d
    → Builds ws ws' txt n used (which_of d.change) trieˢ (node_at ws txt x y at len d) link n'

-- namespaces_mutate.
abbrev pub NamespacesMutated : (ws ws' txt : List ℕ) (n x at len : ℕ) (d : Descent) (link n' : ℕ) → Type 0
NamespacesMutated ws ws' txt n x at len d link n' =
    (used : ℕ) → NamespacesMutation ws txt n used x at len d
    → Builds ws ws' txt n used (which_of d.change) (list ns)
    (namespaces_mutated ws txt d.change (what (which_of d.change) ws txt x (list ns)) d.from at len d.end)
    link n'

-- trie_mutate.
abbrev pub Mutated : (ws ws' txt : List ℕ) (n x at : ℕ) (d : Descent) (link n' : ℕ) → Type 0
Mutated ws ws' txt n x at d link n' =
    (used : ℕ) → Mutation ws txt n used x at d
    → Builds ws ws' txt n used (which_of d.change) trieˢ
    (mutated ws txt d.change (what (which_of d.change) ws txt x trieˢ) d.from at d.end) link n'

-- The words of a branch that holds a Module, or a Namespace: key, full name, path, whether it is loaded.
abbrev pub symbol_row : (last : Bool) (at len from : ℕ) (loaded : Bool) (path : Span) → List ℕ
symbol_row last at len from loaded path =
    kind modules (tree bind) ∷ at ∷ len ∷ 0 ∷ 0 ∷ cond last 0 1 ∷ from ∷ (at + len - from) ∷ cond last path.start 0
    ∷ cond last path.len 0 ∷ cond loaded 1 0 ∷ 0 ∷ []
