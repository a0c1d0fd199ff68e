-- What planning answers: the steps down the path of a query, the insertion of a module path's step, and the plan of each call.
use Rattle.std.specs.Prelude.{ℕ, suc, ◌+◌, ◌*◌, ◌≤◌, max, ◌≡◌, Bool, cond, ◌||◌, List, [], ltb, length}
use Rattle.source.specs.Limits.{record_words, most_segments, heaviest_list, deepest_trie}
use Rattle.source.specs.Text.{Str, Query, segments}
use Rattle.source.specs.Types.{Trie, bindings, namespaces}
use Rattle.source.specs.Tries.{scope_of, included}
use Rattle.source.specs.Table.{Table}
use Rattle.source.specs.Calls.{Call, name, include, opens, alias, module_path, is_empty}
use Rattle.source.specs.Plans.{host_of}
use Rattle.source.specs.Plans.{along, inserted_records, inserted_weight, ins_inserts, step_records, step_weight, plan_depth, plan_crowded, plan_records}
use Rattle.source.specs.Plans.{insert_branches, first_tree}
use Rattle.source.specs.declared.LidSymbol.{LidSymbol}
use Rattle.memory.specs.Layout.{Which, names, modules, trieˢ, what}
use Rattle.memory.specs.Stored.{weight_in}
use Rattle.register_kind.specs.Shapes.{shape_of, call_of}
use Rattle.register_kind.specs.declared.CallKind.{CallKind}
use Rattle.register_kind.specs.declared.Form.{Form}
use Rattle.register_kind.specs.declared.Form.TheVariants as form
use Rattle.register_plan.specs.declared.Cost.{Cost}
use Rattle.register_plan.specs.declared.Plan.{Plan}
use Rattle.memory.specs.Sound.{At, Reads}
use Rattle.register_way.specs.Way.{which_by, NotesStep}
use Rattle.register_way.specs.declared.Way.{Way}

-- ---- Costs

-- That of two changes.
abbrev pub both : Cost → Cost → Cost
both a b = record { records = a.records + b.records; crowded = a.crowded || b.crowded }

-- That of an insertion into a list, and of the trie over it.
abbrev pub insertion : (count weight : ℕ) → Cost
insertion count weight = record { records = count + 2; crowded = ltb heaviest_list weight }

-- That of an import in front of a list, and of the trie over it.
abbrev pub import : (ws : List ℕ) (inner list : ℕ) → Cost
import ws inner list = record { records = 2; crowded = ltb heaviest_list (weight_in ws inner + weight_in ws list + 1) }

-- A list in the lent words that weighs 96 at most.
pub record Light (ws : List ℕ) (x : ℕ) : Type 0 where
  pub fits : x * record_words ≤ length ws
  pub light : weight_in ws x ≤ heaviest_list

-- ---- A path

-- One step: the trie that it goes to, what it makes, and what is noted of it after steps others.
pub record StepIn (ws txt : List ℕ) (w : Which) (x : ℕ) (s : Str) (way way' : Way) (steps link : ℕ)
    (cost : Cost) : Type 0 where
  pub next : Reads ws txt w x link (scope_of (namespaces (what w ws txt x trieˢ)) s)
  pub builds : cost.records ≡ suc (inserted_records (namespaces (what w ws txt x trieˢ)) s)
  pub small : cost.records ≤ 70000
  pub weighs : cost.crowded ≡ ltb heaviest_list (inserted_weight (namespaces (what w ws txt x trieˢ)))
  pub noted : NotesStep way way' steps
      (record { below = link; count = insert_branches (first_tree (namespaces (what w ws txt x trieˢ))) s })

-- The same, for any table that the trie is of.
abbrev pub Stepped : (ws txt : List ℕ) (x : ℕ) (s : Str) (way way' : Way) (steps link : ℕ) (cost : Cost) → Type 0
Stepped ws txt x s way way' steps link cost = (w : Which) → At ws txt w trieˢ x
    → StepIn ws txt w x s way way' steps link cost

-- What the steps of a path give down to the trie at, with the segments rest left.
pub record StepsDown {A : Type 0} (builds weighs : Trie A → Str → Query → ℕ) (tr : Trie A) (q : Query)
    (steps : ℕ) (cost : Cost) (at : Trie A) (rest : Query) : Type 0 where
  pub host : host_of tr q ≡ host_of at rest
  pub number : steps + length rest ≡ length q
  pub small : cost.records ≤ steps * 140000
  pub built : (end : Trie A → ℕ) → along ◌+◌ builds end tr q ≡ cost.records + along ◌+◌ builds end at rest
  pub weighed : (end : Trie A → ℕ)
      → ltb heaviest_list (along max weighs end tr q) ≡ cost.crowded || ltb heaviest_list (along max weighs end at rest)

-- The path to the host of a query.
pub record Path (ws txt : List ℕ) (root : ℕ) (q : Query) (link steps : ℕ) (cost : Cost) : Type 0 where
  pub few : steps ≤ most_segments
  pub here : At ws txt names trieˢ link
  pub gives : StepsDown step_records step_weight (what names ws txt root trieˢ) q steps cost
      (what names ws txt link trieˢ) []

-- What ins makes of the bindings of a trie.
pub record InsertedAt (ws txt : List ℕ) (x : ℕ) (s : Str) (q : Query) (loaded : Bool) (cost : Cost) : Type 0 where
  pub builds : cost.records ≡ cond (ins_inserts loaded (bindings (what modules ws txt x trieˢ)) s q)
      (inserted_records (bindings (what modules ws txt x trieˢ)) s) 0
  pub weighs : cost.crowded ≡ ltb heaviest_list
      (cond (ins_inserts loaded (bindings (what modules ws txt x trieˢ)) s q)
      (inserted_weight (bindings (what modules ws txt x trieˢ))) 0)

-- The same, where last says that no segment is left.
pub record Inserted (ws txt : List ℕ) (x : ℕ) (s : Str) (last loaded : Bool) (cost : Cost) : Type 0 where
  pub small : cost.records ≤ 70000
  pub says : (q : Query) → last ≡ is_empty q → InsertedAt ws txt x s q loaded cost

-- ---- Plans

-- The plan of a call on a table.
pub record Planned (tbl : Table) (c : Call) (p : Plan) : Type 0 where
  pub records : p.cost.records ≡ plan_records tbl c
  pub crowded : p.cost.crowded ≡ plan_crowded tbl c
  pub deep : p.deep ≡ ltb deepest_trie (plan_depth tbl c)

-- Of a name, for any table of the root.
abbrev pub NamePlanned : (ws txt : List ℕ) (root : ℕ) (host id : Str) (p : Plan) → Type 0
NamePlanned ws txt root host id p =
    (tbl : Table) (c : LidSymbol) → tbl.tbl_lids ≡ what names ws txt root trieˢ → Planned tbl (name host id c) p

-- The link inc reads as the trie that a query includes.
abbrev pub Includes : (ws txt : List ℕ) (root inc : ℕ) (q : Str) → Type 0
Includes ws txt root inc q = what names ws txt inc trieˢ ≡ included (what names ws txt root trieˢ) (segments q)

-- Of an include.
abbrev pub IncludePlanned : (ws txt : List ℕ) (root inc : ℕ) (host : Str) (p : Plan) → Type 0
IncludePlanned ws txt root inc host p =
    (tbl : Table) (q : Str) → tbl.tbl_lids ≡ what names ws txt root trieˢ → Includes ws txt root inc q
    → Planned tbl (include host q) p

-- Of an open of a namespace.
abbrev pub OpenPlanned : (ws txt : List ℕ) (root inc : ℕ) (host : Str) (p : Plan) → Type 0
OpenPlanned ws txt root inc host p =
    (tbl : Table) (q : Str) → tbl.tbl_lids ≡ what names ws txt root trieˢ → Includes ws txt root inc q
    → Planned tbl (opens Bool.false host q) p

-- Of an alias.
abbrev pub AliasPlanned : (ws txt : List ℕ) (root inc : ℕ) (key host : Str) (p : Plan) → Type 0
AliasPlanned ws txt root inc key host p =
    (tbl : Table) (q : Str) → tbl.tbl_lids ≡ what names ws txt root trieˢ → Includes ws txt root inc q
    → Planned tbl (alias key host q) p

-- Of a module path.
abbrev pub ModulePlanned : (ws txt : List ℕ) (root : ℕ) (loaded : Bool) (query : Str) (p : Plan) → Type 0
ModulePlanned ws txt root loaded query p =
    (tbl : Table) (path : Str) → tbl.tbl_mods ≡ what modules ws txt root trieˢ
    → Planned tbl (module_path loaded query path) p

-- The link root reads as a root of a table.
abbrev pub RootReads : (w : Which) (ws txt : List ℕ) (root : ℕ) (tbl : Table) → Type 0
RootReads names ws txt root tbl = tbl.tbl_lids ≡ what names ws txt root trieˢ
RootReads modules ws txt root tbl = tbl.tbl_mods ≡ what modules ws txt root trieˢ

-- Of each kind, for any table of the root that it changes.
abbrev pub KindPlanned : (k : CallKind) (ws txt : List ℕ) (root : ℕ) (host other key : Str) (p : Plan) → Type 0
KindPlanned k ws txt root host other key p =
    (tbl : Table) → RootReads (which_by (shape_of k).form) ws txt root tbl → Planned tbl (call_of k host other key) p

-- The link r reads as the trie that a form includes, 0 where it includes none.
abbrev pub Carries : Form → (ws txt : List ℕ) (root : ℕ) (other : Str) (r : ℕ) → Type 0
Carries form.Name ws txt root other r = r ≡ 0
Carries form.Import ws txt root other r =
    Reads ws txt names root r (included (what names ws txt root trieˢ) (segments other))
Carries (form.Module loaded) ws txt root other r = r ≡ 0
