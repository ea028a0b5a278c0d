use Rattle.std.proofs.Common.{◌≡◌, ◌≤◌, [], drop, map}
use Rattle.indexmap.specs.IndexMap.{index_map_len, insert_all}
use Rattle.st_types.specs.Paths.{same_path}
use Rattle.layout.specs.Indexed.{entry_of}
use Rattle.layout.proofs.slot_index.indexed.Given as goal

-- the elements so far, with those still to come
abbrev pub invariant-loop-slot : goal.invariant-loop-slot
invariant-loop-slot l =
    (insert_all same_path l.index.entries (map entry_of (drop l.slot-index l.slots))
    ≡ insert_all same_path [] (map entry_of l.slots)) × (index_map_len l.index ≤ l.slot-index)
