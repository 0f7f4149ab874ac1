-- The script of a made image.
use Rattle.std.specs.Prelude.{ℕ, List, ◌++◌, codes}

unfoldable pub made_script : List ℕ
made_script =
    codes "kernel\nbanners\npslist\npstree\nlsmod\ncheck_syscall\nmaps 1\nlsof 1\n"
    ++ codes "type kernel @init_task task_struct.comm\nread task:1 0x400000 16\n"
    ++ codes "scan task:1 0x400000 4096 0100000000000000\ndump task:1 0x400000 4096\nquit\n"
