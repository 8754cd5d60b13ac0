-- The built-in classes in plain and in woven form, computed.
use Rattle.std.proofs.Common.{refl}
use Rattle.kilim_class_descriptors.specs.Reading.{whole_method, params_at, param_at, field_at, field_behind, base_at, class_at, result_at}
use Rattle.kilim_weave_file_spec.specs.Texts.{woven_descriptor}
use Rattle.kilim_theorems.specs.woven_files.Views.{BuiltInsStay}

pub built_ins_stay : BuiltInsStay
unfolding woven_descriptor whole_method params_at param_at field_at field_behind base_at class_at result_at
built_ins_stay =
    (record { name = refl; superclass = refl; is_marked = refl; is_abstract = refl; is_final = refl; is_built_in = refl; fields = refl; methods = (record { name = refl; pausable = refl; descriptor = refl }, tt) }, (record { name = refl; superclass = refl; is_marked = refl; is_abstract = refl; is_final = refl; is_built_in = refl; fields = refl; methods = (record { name = refl; pausable = refl; descriptor = refl }, (record { name = refl; pausable = refl; descriptor = refl }, (record { name = refl; pausable = refl; descriptor = refl }, tt))) }, (record { name = refl; superclass = refl; is_marked = refl; is_abstract = refl; is_final = refl; is_built_in = refl; fields = refl; methods = tt }, (record { name = refl; superclass = refl; is_marked = refl; is_abstract = refl; is_final = refl; is_built_in = refl; fields = refl; methods = tt }, (record { name = refl; superclass = refl; is_marked = refl; is_abstract = refl; is_final = refl; is_built_in = refl; fields = refl; methods = (record { name = refl; pausable = refl; descriptor = refl }, (record { name = refl; pausable = refl; descriptor = refl }, (record { name = refl; pausable = refl; descriptor = refl }, tt))) }, (record { name = refl; superclass = refl; is_marked = refl; is_abstract = refl; is_final = refl; is_built_in = refl; fields = refl; methods = (record { name = refl; pausable = refl; descriptor = refl }, (record { name = refl; pausable = refl; descriptor = refl }, (record { name = refl; pausable = refl; descriptor = refl }, (record { name = refl; pausable = refl; descriptor = refl }, (record { name = refl; pausable = refl; descriptor = refl }, (record { name = refl; pausable = refl; descriptor = refl }, tt)))))) }, (record { name = refl; superclass = refl; is_marked = refl; is_abstract = refl; is_final = refl; is_built_in = refl; fields = refl; methods = (record { name = refl; pausable = refl; descriptor = refl }, (record { name = refl; pausable = refl; descriptor = refl }, (record { name = refl; pausable = refl; descriptor = refl }, (record { name = refl; pausable = refl; descriptor = refl }, (record { name = refl; pausable = refl; descriptor = refl }, (record { name = refl; pausable = refl; descriptor = refl }, (record { name = refl; pausable = refl; descriptor = refl }, tt))))))) }, (record { name = refl; superclass = refl; is_marked = refl; is_abstract = refl; is_final = refl; is_built_in = refl; fields = refl; methods = (record { name = refl; pausable = refl; descriptor = refl }, (record { name = refl; pausable = refl; descriptor = refl }, (record { name = refl; pausable = refl; descriptor = refl }, tt))) }, (record { name = refl; superclass = refl; is_marked = refl; is_abstract = refl; is_final = refl; is_built_in = refl; fields = refl; methods = (record { name = refl; pausable = refl; descriptor = refl }, (record { name = refl; pausable = refl; descriptor = refl }, tt)) }, (record { name = refl; superclass = refl; is_marked = refl; is_abstract = refl; is_final = refl; is_built_in = refl; fields = refl; methods = (record { name = refl; pausable = refl; descriptor = refl }, (record { name = refl; pausable = refl; descriptor = refl }, tt)) }, (record { name = refl; superclass = refl; is_marked = refl; is_abstract = refl; is_final = refl; is_built_in = refl; fields = refl; methods = (record { name = refl; pausable = refl; descriptor = refl }, (record { name = refl; pausable = refl; descriptor = refl }, tt)) }, (record { name = refl; superclass = refl; is_marked = refl; is_abstract = refl; is_final = refl; is_built_in = refl; fields = refl; methods = (record { name = refl; pausable = refl; descriptor = refl }, (record { name = refl; pausable = refl; descriptor = refl }, tt)) }, (record { name = refl; superclass = refl; is_marked = refl; is_abstract = refl; is_final = refl; is_built_in = refl; fields = refl; methods = (record { name = refl; pausable = refl; descriptor = refl }, (record { name = refl; pausable = refl; descriptor = refl }, tt)) }, (record { name = refl; superclass = refl; is_marked = refl; is_abstract = refl; is_final = refl; is_built_in = refl; fields = refl; methods = (record { name = refl; pausable = refl; descriptor = refl }, (record { name = refl; pausable = refl; descriptor = refl }, tt)) }, (record { name = refl; superclass = refl; is_marked = refl; is_abstract = refl; is_final = refl; is_built_in = refl; fields = refl; methods = (record { name = refl; pausable = refl; descriptor = refl }, (record { name = refl; pausable = refl; descriptor = refl }, tt)) }, (record { name = refl; superclass = refl; is_marked = refl; is_abstract = refl; is_final = refl; is_built_in = refl; fields = refl; methods = (record { name = refl; pausable = refl; descriptor = refl }, (record { name = refl; pausable = refl; descriptor = refl }, tt)) }, (record { name = refl; superclass = refl; is_marked = refl; is_abstract = refl; is_final = refl; is_built_in = refl; fields = refl; methods = (record { name = refl; pausable = refl; descriptor = refl }, (record { name = refl; pausable = refl; descriptor = refl }, tt)) }, (record { name = refl; superclass = refl; is_marked = refl; is_abstract = refl; is_final = refl; is_built_in = refl; fields = refl; methods = (record { name = refl; pausable = refl; descriptor = refl }, (record { name = refl; pausable = refl; descriptor = refl }, tt)) }, tt))))))))))))))))))
