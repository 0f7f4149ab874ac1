-- How the state of a cache is stored as numbers and lists.
use Rattle.std.specs.Prelude.{ℕ, List, Option, refl}
use Rattle.std.specs.Coded.{Coded, code_by, coded×, coded_ℕ, coded_list, coded_option}
use Rattle.layer_base.specs.Codes.{kept_code}
use Rattle.layer_base.specs.Mapped.{KeptRun}
use Rattle.run_cache.specs.Cache.{CacheState}

abbrev pub cache_code : Coded CacheState
cache_code =
    code_by (ℕ × (List KeptRun × Option KeptRun)) (coded× coded_ℕ (coded× (coded_list kept_code) (coded_option kept_code))) (λ c. (c.capacity, (c.kept, c.last)))
    (λ p. record { capacity = p.0; kept = p.1.0; last = p.1.1 }) (λ _. refl)
