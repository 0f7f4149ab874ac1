-- What the fields of a cache show.
use Rattle.std.specs.Prelude.{ℕ, ◌<◌, [], map, Option, None, Some, option_map}
use Rattle.lru.specs.LruCache.{LruCache}
use Rattle.run_cache.specs.Cache.{CacheState}
use Rattle.run_cache.specs.Key.{kept_entry, kept_held}
use Rattle.run_cache.specs.declared.key.HeldRun.{HeldRun}
use Rattle.run_cache.specs.declared.key.RunKey.{RunKey}

-- a cache without a list has no room
abbrev pub shown : Option (LruCache RunKey (Option ℕ)) → Option HeldRun → CacheState
shown None newest = record { capacity = 0; kept = []; last = option_map kept_held newest }
shown (Some runs) newest = record { capacity = runs.cap; kept = map kept_entry runs.entries; last = option_map kept_held newest }

-- a list has room for a run
abbrev pub HasRoom : Option (LruCache RunKey (Option ℕ)) → Type 0
HasRoom None = Unit {0}
HasRoom (Some runs) = 0 < runs.cap
