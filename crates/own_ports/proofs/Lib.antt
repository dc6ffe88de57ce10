pub mod OwnPorts
