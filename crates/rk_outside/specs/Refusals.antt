-- What a refusal becomes on its way up.
use Rattle.rk_outside.specs.declared.error.SourceError.{SourceError}
use Rattle.rk_outside.specs.declared.error.BuildError.{BuildError}
use Rattle.rk_outside.specs.declared.error.StoreError.{StoreError}
use Rattle.rk_outside.specs.declared.error.SourceError.TheVariants as source
use Rattle.rk_outside.specs.declared.error.BuildError.TheVariants as build
use Rattle.rk_outside.specs.declared.error.StoreError.TheVariants as store

abbrev pub build_error_of : SourceError → BuildError
build_error_of source.Memory = build.Memory
build_error_of (source.ReadFault faults) = build.ReadFault faults
build_error_of (source.BadTable file at) = build.BadTable file at

abbrev pub store_error_of : SourceError → StoreError
store_error_of source.Memory = store.Memory
store_error_of (source.ReadFault faults) = store.ReadFault faults
store_error_of (source.BadTable file at) = store.BadTable file at

abbrev pub store_error_of_build : BuildError → StoreError
store_error_of_build build.Memory = store.Memory
store_error_of_build (build.ReadFault faults) = store.ReadFault faults
store_error_of_build (build.BadTable file at) = store.BadTable file at
store_error_of_build (build.TooLong what have limit) = store.TooLong what have limit
