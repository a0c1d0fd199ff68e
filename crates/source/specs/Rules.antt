-- What Sound asks of the tables that the memory holds: names, labels, items, ascending keys, weight and depth.
use Rattle.std.specs.Prelude.{ℕ, ◌≤◌, ◌<◌, ◌≡◌, ◌⊎◌, Bool, true, ◌&&◌, [], ◌∷◌, length}
use Rattle.source.specs.Limits.{longest_name, longest_path, longest_full_name, heaviest_list, deepest_trie}
use Rattle.source.specs.Text.{Str, name_byte, query_byte, path_byte}
use Rattle.source.specs.Types.{Level, Value, Trie, Tree, NameList, item, trie, StrEmpty, StrBranch, []ᴺ, Names, ImportedNames}
use Rattle.source.specs.Terms.{heaviest, depth}
use Rattle.source.specs.Table.{ModSymbol, Module, Namespace, Table}
use Rattle.source.specs.declared.LidSymbol.{LidSymbol}

-- Each byte passes the test.
unfoldable pub all : (ℕ → Bool) → Str → Bool
all p [] = true
all p (b ∷ s) = p b && all p s

-- A text of low to high bytes that pass the test.
pub record Fits (p : ℕ → Bool) (low high : ℕ) (s : Str) : Type 0 where
  pub bytes : all p s ≡ true
  pub long : low ≤ length s
  pub short : length s ≤ high

-- A key, a label, a full name, a file path.
abbrev pub IsKey : Str → Type 0
IsKey s = Fits name_byte 1 longest_name s

abbrev pub IsLabel : Str → Type 0
IsLabel s = Fits query_byte 0 longest_full_name s

abbrev pub IsFullName : Str → Type 0
IsFullName s = Fits query_byte 1 longest_full_name s

abbrev pub IsPath : Str → Type 0
IsPath s = Fits path_byte 0 longest_path s

-- The items of the names table (any kind and number), and of the module table.
abbrev pub NameItem : LidSymbol → Type 0
NameItem i = Unit {0}

abbrev pub ModItem : ModSymbol → Type 0
ModItem (Module name path loaded) = IsFullName name × IsPath path
ModItem (Namespace name loaded) = IsFullName name

-- The order of texts that string_compare decides: bytewise, a proper beginning first.
infix 40 ◌<ˢ◌
abbrev pub ◌<ˢ◌ : Str → Str → Type 0
[] <ˢ [] = ⊥
[] <ˢ (b ∷ t) = Unit {0}
(a ∷ s) <ˢ [] = ⊥
(a ∷ s) <ˢ (b ∷ t) = (a < b) ⊎ ((a ≡ b) × (s <ˢ t))

module _ {A : Type 0} {ℓ : Level} where
  abbrev pub AllKeys : (Str → Type 0) → Tree A ℓ → Type 0
  AllKeys P StrEmpty = Unit {0}
  AllKeys P (StrBranch k v lbt rbt) = P k × AllKeys P lbt × AllKeys P rbt

  -- A tree's keys ascend strictly.
  abbrev pub Ordered : Tree A ℓ → Type 0
  Ordered StrEmpty = Unit {0}
  Ordered (StrBranch k v lbt rbt) = AllKeys (λ x. x <ˢ k) lbt × AllKeys (λ x. k <ˢ x) rbt × Ordered lbt × Ordered rbt

-- Keys, labels and items keep their rules, and each tree's keys ascend strictly.
module _ {A : Type 0} (Key Label : Str → Type 0) (Item : A → Type 0) where
  abbrev mutual
    pub Formed : {ℓ : Level} → Value A ℓ → Type 0
    Formed (item a) = Item a
    Formed (trie b n) = FormedNames b × FormedNames n

    pub FormedTree : {ℓ : Level} → Tree A ℓ → Type 0
    FormedTree StrEmpty = Unit {0}
    FormedTree (StrBranch k v lbt rbt) =
        Key k × Formed v × AllKeys (λ x. x <ˢ k) lbt × AllKeys (λ x. k <ˢ x) rbt × FormedTree lbt × FormedTree rbt

    pub FormedNames : {ℓ : Level} → NameList A ℓ → Type 0
    FormedNames []ᴺ = Unit {0}
    FormedNames (Names bt tl) = FormedTree bt × FormedNames tl
    FormedNames (ImportedNames label inner tl) = Label label × FormedNames inner × FormedNames tl

-- A root as Sound has it: every list weighs at most 96, and the depth is at most 16.
pub record SoundTrie {A : Type 0} (Item : A → Type 0) (tr : Trie A) : Type 0 where
  pub formed : Formed IsKey IsLabel Item tr
  pub light : heaviest tr ≤ heaviest_list
  pub shallow : depth tr ≤ deepest_trie

pub record SoundTable (tbl : Table) : Type 0 where
  pub lids : SoundTrie NameItem tbl.tbl_lids
  pub mods : SoundTrie ModItem tbl.tbl_mods
