-- The numbers of the requirements, each named once.
use Rattle.std.specs.Prelude.{ℕ}

-- Row 4: bytes of a name or segment, segments of a query, bytes of a file path.
abbrev pub longest_name : ℕ
longest_name = 31

abbrev pub most_segments : ℕ
most_segments = 17

abbrev pub longest_path : ℕ
longest_path = 120

-- Bytes of a label or full name: as many segments, with a dot between two.
abbrev pub longest_full_name : ℕ
longest_full_name = 543

-- Bytes of a query: as many segments, each with a dot.
abbrev pub longest_query : ℕ
longest_query = 544

-- Row 5: weight of a list. Row 6: depth of a trie.
abbrev pub heaviest_list : ℕ
heaviest_list = 96

abbrev pub deepest_trie : ℕ
deepest_trie = 16

-- Records used, and text bytes used.
abbrev pub most_used : ℕ
most_used = 65536

-- Words of a record.
abbrev pub record_words : ℕ
record_words = 12
