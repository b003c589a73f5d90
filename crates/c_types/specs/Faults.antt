-- Why no channel is made of two texts: that of a resolv.conf, which is read first, and that of a hosts file.
use Rattle.std.specs.Prelude.{List, length, ℕ, ◌<◌, ◌≤◌}
use Rattle.c_types.specs.declared.making.MakeFault.{MakeFault}
use Rattle.c_types.specs.declared.making.MakeFault.TheVariants.{LargeHosts, LargeResolv, NoMemory}

-- neither text is above its limit
abbrev pub AreReadable : List ℕ → List ℕ → Type 0
AreReadable resolv hosts = (length resolv ≤ 65536) × (length hosts ≤ 4194304)

-- the fault has its cause in the texts; memory may be wanting wherever the first can be read
abbrev pub HasCause : List ℕ → List ℕ → MakeFault → Type 0
HasCause resolv hosts LargeResolv = 65536 < length resolv
HasCause resolv hosts LargeHosts = (length resolv ≤ 65536) × (4194304 < length hosts)
HasCause resolv hosts NoMemory = length resolv ≤ 65536
